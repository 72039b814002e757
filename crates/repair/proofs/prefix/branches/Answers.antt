-- `repair::prefix::branches` meets its contract: two up to the fiftieth bit, one after it.
-- Assumes nothing.
use mathlib.Core.Path.{sym}
use native.Mathlib.Omega.{arith}
use Rattle.distance.proofs.StepLaws.{branches_first, branches_later}
use Rattle.repair.proofs.prefix.branches.Goals as goal

pub returns-then-depth-lt50 : goal.returns-then-depth-lt50
returns-then-depth-lt50 c = let a = c.args in sym (branches_first a.depth (omega arith))

pub returns-else-depth-lt50 : goal.returns-else-depth-lt50
returns-else-depth-lt50 c = let a = c.args in sym (branches_later a.depth (omega arith))
