-- `frame::sync::sync_vector` meets its contract: the table is the synchronization vector, entry by entry.
-- Assumes nothing.
use mathlib.Core.Path.{refl}
use Rattle.frame.specs.Symbols.{sync_vector}
use Rattle.frame.proofs.sync.sync_vector.Goals as goal

pub returns : goal.returns
unfolding sync_vector
returns c = refl
