-- `repair::prefix::register` meets its contract: the lowest 32 bits, shifted by the zeros of the tail.
-- Assumes nothing.
use mathlib.Core.Path.{sym}
use native.Mathlib.Omega.{arith}
use Rattle.distance.proofs.StepLaws.{register_first, register_later}
use Rattle.repair.proofs.prefix.register.Goals as goal

pub returns-then-depth-lt50 : goal.returns-then-depth-lt50
returns-then-depth-lt50 c = let a = c.args in sym (register_first a.depth (omega arith) a.number)

pub returns-else-depth-lt50 : goal.returns-else-depth-lt50
returns-else-depth-lt50 c = let a = c.args in sym (register_later a.depth (omega arith) a.number)
