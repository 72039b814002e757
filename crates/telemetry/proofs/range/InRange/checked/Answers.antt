-- `telemetry::range::InRange::checked` meets its contract: it holds what is measured exactly where no place is out of its range.
-- Assumes nothing.
use mathlib.Core.Path.{sym, ◌∙◌}
use native.Mathlib.Omega.{arith}
use Rattle.basics.proofs.SearchLaws.{some_below_found, some_below_none}
use Rattle.telemetry.proofs.RangeLaws.{first_out_of_range_end, checked_found, checked_none}
use Rattle.telemetry.proofs.range.InRange.checked.Goals as goal

pub overflow_cast-result : goal.overflow_cast-result
overflow_cast-result c = omega (arith, (some_below_found 9 _ _ (sym c.first_out_of_range.ensures ∙ c.in-Some.is)).1)

pub returns-in-Some : goal.returns-in-Some
returns-in-Some c =
    let bad = some_below_found 9 _ _ (sym c.first_out_of_range.ensures ∙ c.in-Some.is) in
    sym (checked_found c.args.taken c.args.measured _ bad.0 bad.1)

pub invariant_of-result : goal.invariant_of-result
invariant_of-result c =
    let none = some_below_none 9 _ (sym c.first_out_of_range.ensures ∙ c.in_default.is) in
    (c.args.taken, omega (arith, none, first_out_of_range_end c.args.taken c.args.measured))

pub returns : goal.returns
returns c = sym (checked_none c.args.taken c.args.measured (some_below_none 9 _ (sym c.first_out_of_range.ensures ∙ c.in_default.is)))
