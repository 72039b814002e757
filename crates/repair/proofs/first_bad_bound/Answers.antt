-- `repair::first_bad_bound` meets its contract, case by case.
-- Assumes nothing.
use mathlib.Core.Path.{◌≡◌, sym, ◌∙◌}
use mathlib.Core.Bool.{true, false}
use native.Mathlib.Omega.{arith}
use borrow.Author.Tests.{le-leb}
use Rattle.basics.specs.Lists.{first_failing}
use Rattle.basics.specs.Test.{between}
use Rattle.basics.proofs.Choice.{between_range}
use Rattle.basics.proofs.RangeTests.{contains_between}
use Rattle.basics.proofs.SearchLaws.{some_below_at, some_below_past}
use Rattle.repair.specs.Answer.{first_bad_bound}
use Rattle.repair.proofs.BoundLaws.{bad_limit_first, no_bad_bound}
use Rattle.repair.proofs.first_bad_bound.Goals as goal

pub returns-then-limit-gt12 : goal.returns-then-limit-gt12
returns-then-limit-gt12 c = sym (some_below_at 2 _ 0 (bad_limit_first c.args.limit c.args.budget (omega arith)) (omega arith))

pub returns-then-not-contains : goal.returns-then-not-contains
unfolding first_bad_bound first_failing
returns-then-not-contains c =
    let a = c.args in
    let new = c.new.ensures in
    let out : between 1 65_536 a.budget ≡ false = sym (c.contains.ensures.value ∙ contains_between 1 65_536 a.budget _ new.start new.end new.exhausted) ∙ c.if-not-contains.true in
    let second : first_bad_bound a.limit a.budget ≡ 1 = rw (le-leb a.limit 12 (omega arith), out) in
    sym (some_below_at 2 _ 1 second (omega arith))

pub returns : goal.returns
returns c =
    let a = c.args in
    let new = c.new.ensures in
    let within : between 1 65_536 a.budget ≡ true = sym (c.contains.ensures.value ∙ contains_between 1 65_536 a.budget _ new.start new.end new.exhausted) ∙ c.if-not-contains.false in
    let budget = between_range 1 65_536 a.budget within in
    let none = no_bad_bound a.limit a.budget (record { limit_to_12 = omega arith; budget_from_1 = budget.0; budget_to_65536 = budget.1 }) in
    sym (some_below_past 2 _ (omega (arith, none)))
