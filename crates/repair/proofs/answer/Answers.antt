-- `repair::answer` meets its contract, case by case.
-- Assumes nothing.
use native.Mathlib.Omega.{arith}
use mathlib.Core.Path.{sym}
use Rattle.repair.specs.Search.{nearest_in}
use Rattle.repair.proofs.FoundLaws.{answer_over, answer_none, answer_shared, answer_word}
use Rattle.repair.proofs.answer.Goals as goal

pub returns-then-budget-found : goal.returns-then-budget-found
returns-then-budget-found c =
    let a = c.args in
    sym (answer_over a.found a.sync_wrong a.limit a.budget (omega arith))

pub returns-then-limit-best : goal.returns-then-limit-best
returns-then-limit-best c =
    let a = c.args in
    sym (answer_none a.found a.sync_wrong a.limit a.budget (omega arith) (omega arith))

pub returns-then-best : goal.returns-then-best
returns-then-best c =
    let a = c.args in
    sym (answer_shared a.found a.sync_wrong a.limit a.budget (omega arith) (omega arith) (omega arith))

pub returns : goal.returns
unfolding nearest_in
returns c =
    let a = c.args in
    sym (answer_word a.found a.sync_wrong a.limit a.budget (omega arith) (omega arith) (omega arith))
