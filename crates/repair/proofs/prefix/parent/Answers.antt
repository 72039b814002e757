-- `repair::prefix::parent` meets its contract: without the lowest bit, or with one zero less.
-- Assumes nothing.
use mathlib.Core.Path.{sym}
use native.Mathlib.Omega.{arith}
use Rattle.distance.proofs.StepLaws.{parent_first, parent_later}
use Rattle.repair.proofs.prefix.parent.Goals as goal

pub returns-then-depth-lt50 : goal.returns-then-depth-lt50
returns-then-depth-lt50 c = let a = c.args in sym (parent_first a.depth (omega arith) a.number)

pub returns-else-depth-lt50 : goal.returns-else-depth-lt50
returns-else-depth-lt50 c = let a = c.args in sym (parent_later a.depth (omega arith) a.number)
