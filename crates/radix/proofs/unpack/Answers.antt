-- `radix::unpack` meets its contract. The loop's invariant: the digits by the radices that are left, of what is left of the number, and
-- those that are written behind make all its digits.
-- Assumes nothing.
use mathlib.Core.Path.{◌∙◌}
use native.Mathlib.Omega.{arith}
use Rattle.radix.proofs.Turns.{radix_positive, unpack_turn, unpack_ends}
use Rattle.radix.proofs.unpack.Goals as goal

pub nonzero_rem-digits : goal.nonzero_rem-digits
nonzero_rem-digits c = radix_positive _ _ c.in-Some.ensures.steps.1.0 c.loop-i.invariant.1

pub nonzero_div-rest : goal.nonzero_div-rest
nonzero_div-rest c = radix_positive _ _ c.in-Some.ensures.steps.1.0 c.loop-i.invariant.1

pub loop-i-preserved : goal.loop-i-preserved
loop-i-preserved c =
    let steps = c.in-Some.ensures.steps in
    let first = c.loop-i.invariant.0 in
    (steps.0 ∙ first, unpack_turn _ _ steps.1.0 c.loop-i.invariant.1 c.in-Some.i (omega (arith, steps.1.1)))

pub returns : goal.returns
returns c =
    let ends = unpack_ends _ _ _ _ _ c.in-None.ensures.steps.1.0 c.loop-i.invariant.1 in
    record { rest = ends.0; written = ends.1 }
