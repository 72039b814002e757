-- `telemetry::codes::temperature_code` meets its contract: the machine's signed quotient, less one where its remainder is below zero, is
-- the number rounded down, and nothing leaves the width.
-- Assumes nothing.
use Rattle.std.proofs.Common.{◌≡◌, ℕ, Bool, false, true}
use native.Mathlib.Omega.{arith}
use lib.IntN.{ℤ, pos, ◌+ℤ◌, ◌-ℤ◌}
use lib.Signed.{quot_z, rem_z, shr_z, lt_z, mag_rem, mag_shr}
use mir.Facts.{to_z-of_z}
use mir.Syntax.{w32}
use mir.Val.{SFits, to_z, of_z}
use Rattle.telemetry.specs.Codes.{temperature_code}
use Rattle.telemetry.proofs.CodeLaws.{Coded, coded, quotient_small, quotient_above, quotient_down}
use Rattle.telemetry.proofs.codes.temperature_code.Goals as goal
use Rattle.telemetry.proofs.codes.temperature_code.Goals.{then-tenths-lt0, else-tenths-lt0}

-- The quotient fits, and so does the remainder.
quotient_fits : (tenths : ℤ) → SFits w32 tenths → SFits w32 (quot_z tenths (pos 10))
quotient_fits tenths f = record { sfits = omega (arith, f.sfits, quotient_small tenths) }

remainder_fits : (tenths : ℤ) → SFits w32 tenths → SFits w32 (rem_z tenths (pos 10))
remainder_fits tenths f = record { sfits = omega (arith, f.sfits, mag_rem tenths (pos 10)) }

down_fits : (tenths : ℤ) → SFits w32 tenths → SFits w32 (shr_z tenths 10)
down_fits tenths f = record { sfits = omega (arith, f.sfits, mag_shr tenths 10) }

code_fits : (tenths : ℤ) → Coded tenths → SFits w32 (pos (temperature_code tenths))
code_fits tenths k = record { sfits = omega (arith, k.below) }

-- The machine's quotient.
abbrev quotient : ℤ → ℤ
quotient tenths = to_z w32 (of_z w32 (quot_z (to_z w32 (of_z w32 tenths)) (pos 10)))

-- The test of the machine's remainder.
abbrev below_zero : ℤ → Bool
below_zero tenths = lt_z (to_z w32 (of_z w32 (rem_z (to_z w32 (of_z w32 tenths)) (pos 10)))) (pos 0)

-- The quotient less one, where the remainder is below zero, is the number rounded down, and so is the quotient where it isn't.
down_below : (tenths : ℤ) (bits : ℕ) → SFits w32 tenths → to_z w32 bits ≡ pos 1 → below_zero tenths ≡ true → quotient tenths -ℤ to_z w32 bits ≡ shr_z tenths 10
down_below tenths bits fits one taken =
    let plain = to_z-of_z fits in
    let whole = to_z-of_z (quotient_fits tenths fits) in
    let remainder = to_z-of_z (remainder_fits tenths fits) in
    rw (plain, whole, one) (quotient_above tenths (rw (plain, remainder) at taken))

down_kept : (tenths : ℤ) (bits : ℕ) → SFits w32 tenths → to_z w32 bits ≡ pos 0 → below_zero tenths ≡ false → quotient tenths -ℤ to_z w32 bits ≡ shr_z tenths 10
down_kept tenths bits fits none left =
    let plain = to_z-of_z fits in
    let whole = to_z-of_z (quotient_fits tenths fits) in
    let remainder = to_z-of_z (remainder_fits tenths fits) in
    rw (plain, whole, none) (quotient_down tenths (rw (plain, remainder) at left))

-- What the code computes is the definition's code.
sum_is : (tenths : ℤ) (bits : ℕ) → SFits w32 tenths → Coded tenths → quotient tenths -ℤ to_z w32 bits ≡ shr_z tenths 10
    → to_z w32 (of_z w32 (to_z w32 (of_z w32 (quotient tenths -ℤ to_z w32 bits)) +ℤ pos 50)) ≡ pos (temperature_code tenths)
sum_is tenths bits fits k down = rw (down, to_z-of_z (down_fits tenths fits), k.sum, to_z-of_z (code_fits tenths k))

pub overflow_cast-result : goal.overflow_cast-result
overflow_cast-result c =
    let k = coded c.args.tenths c.requires in
    let bits = c.if-tenths-lt0.rounded_up-bits in
    let down : quotient c.args.tenths -ℤ to_z w32 bits ≡ shr_z c.args.tenths 10 =
    elim c.if-tenths-lt0.branch [
      | then-tenths-lt0 w ↦ down_below c.args.tenths bits c.ranges.tenths w.rounded_up-is w.if-tenths-lt0.true
      | else-tenths-lt0 w ↦ down_kept c.args.tenths bits c.ranges.tenths w.rounded_up-is w.if-tenths-lt0.false
    ] in
    rw (sum_is c.args.tenths bits c.ranges.tenths k down) (tt, record { fits = omega (arith, k.below) })

pub returns : goal.returns
returns c =
    let k = coded c.args.tenths c.requires in
    let bits = c.if-tenths-lt0.rounded_up-bits in
    let down : quotient c.args.tenths -ℤ to_z w32 bits ≡ shr_z c.args.tenths 10 =
    elim c.if-tenths-lt0.branch [
      | then-tenths-lt0 w ↦ down_below c.args.tenths bits c.ranges.tenths w.rounded_up-is w.if-tenths-lt0.true
      | else-tenths-lt0 w ↦ down_kept c.args.tenths bits c.ranges.tenths w.rounded_up-is w.if-tenths-lt0.false
    ] in
    rw (sum_is c.args.tenths bits c.ranges.tenths k down)
