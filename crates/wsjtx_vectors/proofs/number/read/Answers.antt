-- `wsjtx_vectors::number::read` meets its contract. The loop's invariant: going on from the number with the digits that are left gives
-- what the whole numeral writes, and the number is below the base to the power of the digits passed.
-- Assumes nothing.
use mathlib.Core.Path.{sym, ◌∙◌}
use native.Mathlib.Omega.{arith}
use Rattle.wsjtx_vectors.proofs.NumberLaws.{reading_starts, reading_ends, reading_fits, reading_digit, reading_large, reading_other}
use Rattle.wsjtx_vectors.proofs.number.read.Goals as goal

pub loop-byte-init : goal.loop-byte-init
loop-byte-init c = reading_starts _ _

pub returns-in_err-digit_value : goal.returns-in_err-digit_value
returns-in_err-digit_value c =
    c.from_residual.ensures ∙ reading_other c.loop-byte.invariant (omega arith) (sym c.digit_value.ensures ∙ c.in_err-digit_value.was) (omega arith)

pub returns-then-base-digit : goal.returns-then-base-digit
returns-then-base-digit c =
    reading_large c.loop-byte.invariant (omega arith) (sym c.digit_value.ensures ∙ c.in_ok-digit_value.was) (omega arith)

pub overflow_mul-number : goal.overflow_mul-number
overflow_mul-number c = omega (arith, reading_fits c.loop-byte.invariant {d = c.from-digit.result} (omega arith) (omega arith) (omega arith))

pub overflow_add-number : goal.overflow_add-number
overflow_add-number c = omega (arith, reading_fits c.loop-byte.invariant {d = c.from-digit.result} (omega arith) (omega arith) (omega arith))

pub loop-byte-preserved : goal.loop-byte-preserved
loop-byte-preserved c =
    rw c.from-digit.ensures (reading_digit c.loop-byte.invariant (omega arith) (sym c.digit_value.ensures ∙ c.in_ok-digit_value.was) (omega arith))

pub returns : goal.returns
returns c = reading_ends c.loop-byte.invariant (omega arith)
