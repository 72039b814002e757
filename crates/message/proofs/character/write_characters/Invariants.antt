-- `message::character::write_characters` meets its contract: the loop fills the characters one by one.
-- Assumes nothing.

use Rattle.basics.proofs.Filling.{Filling}
use Rattle.message.specs.Character.{characters_from}
use Rattle.message.proofs.character.write_characters.Given as goal

abbrev pub invariant-loop-i : goal.invariant-loop-i
invariant-loop-i l = Filling (characters_from l.start l.digits) l.bytes l.i
