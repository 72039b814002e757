-- `repair::search::search` meets its contract: each turn is a move of the walk (Walk.antt). Both loops have one measure: a live prefix that is
-- counted leaves less of the budget, and between two of these branches are passed and prefixes get shorter.
-- Assumes nothing.

use Prim.Native.Nat.{ℕ, ◌+◌, ◌-◌, ◌*◌, ◌≤◌}
use Rattle.repair.proofs.Walk.{Walking}
use Rattle.repair.proofs.search.search.Given as goal

-- What is left to do: a live prefix is counted, a branch is passed, or a shorter prefix is gone back to.
abbrev pub left : ℕ → ℕ → ℕ → ℕ → ℕ
left budget live depth branch = (budget - live) * 256 + depth * 3 + (2 - branch)

abbrev pub invariant-loop-branch : goal.invariant-loop-branch
invariant-loop-branch l =
    Walking l.received l.limit l.budget l.costs l.best l.live l.depth l.number l.disagreements l.branch
    × (left l.budget l.live l.depth l.branch ≤ left l.budget l.initial.live l.initial.depth l.initial.branch)

abbrev pub decreases-loop-branch : goal.decreases-loop-branch
decreases-loop-branch l =
    left l.budget l.live l.depth l.branch

abbrev pub invariant-depths : goal.invariant-depths
invariant-depths l =
    Walking l.received l.limit l.budget l.costs l.best l.live l.depth l.number l.disagreements l.branch

abbrev pub decreases-depths : goal.decreases-depths
decreases-depths l =
    left l.budget l.live l.depth l.branch
