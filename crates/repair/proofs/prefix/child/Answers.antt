-- `repair::prefix::child` meets its contract: the branch is a new lowest bit, or a zero of the tail.
-- Assumes nothing.
use mathlib.Core.Path.{sym}
use native.Mathlib.Omega.{arith}
use Rattle.distance.proofs.StepLaws.{child_first, child_later}
use Rattle.repair.proofs.prefix.child.Goals as goal

pub returns-then-depth-lt50 : goal.returns-then-depth-lt50
returns-then-depth-lt50 c = let a = c.args in sym (child_first a.depth (omega arith) a.number a.branch)

pub returns-else-depth-lt50 : goal.returns-else-depth-lt50
returns-else-depth-lt50 c = let a = c.args in sym (child_later a.depth (omega arith) a.number a.branch)
