-- `message::character::character_of` meets its contract: each branch is a case of the definition.
-- Assumes nothing.
use mathlib.Core.Path.{sym}
use native.Mathlib.Omega.{arith}
use Rattle.message.proofs.CharacterLaws.{character_digit, character_letter, character_space}
use Rattle.message.proofs.character.character_of.Goals as goal

pub returns-then-value-lt10 : goal.returns-then-value-lt10
returns-then-value-lt10 c = sym (character_digit c.if-value-lt10.true)

pub returns-then-value-lt36 : goal.returns-then-value-lt36
returns-then-value-lt36 c = omega (arith, character_letter c.if-value-lt10.false c.if-value-lt36.true)

pub returns-else-value-lt36 : goal.returns-else-value-lt36
returns-else-value-lt36 c = sym (character_space c.if-value-lt36.false)
