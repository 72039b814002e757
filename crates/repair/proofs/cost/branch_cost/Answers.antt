-- `repair::cost::branch_cost` meets its contract: what a 0 adds, or the rest of 2.
-- Assumes nothing.
use native.Mathlib.Omega.{arith}
use borrow.Author.Tests.{eq-eqb, ne_eqb}
use Rattle.distance.specs.Steps.{branch_cost}
use Rattle.repair.proofs.cost.branch_cost.Goals as goal

pub returns-then-branch-eq0 : goal.returns-then-branch-eq0
unfolding branch_cost
returns-then-branch-eq0 c = let a = c.args in rw (eq-eqb a.branch 0 (omega arith))

pub returns-else-branch-eq0 : goal.returns-else-branch-eq0
unfolding branch_cost
returns-else-branch-eq0 c = let a = c.args in rw (ne_eqb a.branch 0 (λ e. omega arith))
