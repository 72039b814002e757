-- `message::word::locator_part` meets its contract: a shift divides by a power of two.
-- Assumes nothing.
use mathlib.Core.Path.{refl}
use Rattle.message.specs.Word.{locator_part}
use Rattle.message.proofs.word.locator_part.Goals as goal

pub returns : goal.returns
unfolding locator_part
returns c = refl
