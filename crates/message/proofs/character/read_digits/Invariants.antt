-- `message::character::read_digits` meets its contract: the loop fills the digits one by one.
-- Assumes nothing.

use Rattle.basics.proofs.Filling.{Filling}
use Rattle.message.specs.Character.{digits_from}
use Rattle.message.proofs.character.read_digits.Given as goal

abbrev pub invariant-loop-i : goal.invariant-loop-i
invariant-loop-i l = Filling (digits_from l.start l.bytes) l.digits l.i
