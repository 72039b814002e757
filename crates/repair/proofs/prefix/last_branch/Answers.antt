-- `repair::prefix::last_branch` meets its contract: the lowest bit, or a zero of the tail.
-- Assumes nothing.
use mathlib.Core.Path.{sym}
use native.Mathlib.Omega.{arith}
use Rattle.distance.proofs.StepLaws.{last_first, last_later}
use Rattle.repair.proofs.prefix.last_branch.Goals as goal

pub returns-then-depth-lt50 : goal.returns-then-depth-lt50
returns-then-depth-lt50 c = let a = c.args in sym (last_first a.depth (omega arith) a.number)

pub returns-else-depth-lt50 : goal.returns-else-depth-lt50
returns-else-depth-lt50 c = let a = c.args in sym (last_later a.depth (omega arith) a.number)
