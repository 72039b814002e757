-- `message::word::callsign_part` meets its contract: a shift divides by a power of two.
-- Assumes nothing.
use mathlib.Core.Path.{refl}
use Rattle.message.specs.Word.{callsign_part}
use Rattle.message.proofs.word.callsign_part.Goals as goal

pub returns : goal.returns
unfolding callsign_part
returns c = refl
