-- `message::character::digit_at` meets its contract: both branches are the definition's difference, which is 0 below the lowest.
-- Assumes nothing.
use native.Mathlib.Omega.{arith}
use Rattle.message.specs.Character.{digit_at}
use Rattle.message.proofs.character.digit_at.Goals as goal

pub returns-then-value-lowest : goal.returns-then-value-lowest
unfolding digit_at
returns-then-value-lowest c = omega arith

pub returns : goal.returns
unfolding digit_at
returns c = omega arith
