-- Laws of the codes: each is below its count for what is in range, what is read back of a code has that code again, and what reads back of
-- a measured value is that value rounded down to steps.
use mathlib.Core.Path.{◌≡◌, refl, ap, ◌∙◌}
use Prim.Native.Nat.{ℕ, zero, suc, ◌+◌, ◌-◌, ◌*◌, ◌/◌, ◌%◌, ◌≤◌, ◌<◌}
use native.Mathlib.Omega.{arith}
use mathlib.Core.Bool.{true, false, true≢false, false≢true, ◌&&◌}
use mathlib.Core.List.{[], ◌∷◌, ◌++◌, map}
use lib.Dec.{eqb, leb}
use lib.IntN.{ℤ, pos, negsuc, neg_ℤ, nat_abs, sub_ℕ, ◌+ℤ◌, ◌-ℤ◌, ◌*ℤ◌, +ℤ_idr}
use lib.ListN.{replicate}
use lib.Signed.{mag, lt_z, le_z, quot_z, rem_z, shr_z, le_z_yes}
use mir.Syntax.{w32}
use mir.Val.{SFits}
use borrow.Author.Tests.{eqb-true, leb-true, ltb-true, le-ltb, lt-ltb}
use Rattle.basics.specs.Lists.{tabulate}
use Rattle.basics.specs.Rounding.{WithinStepBelow}
use Rattle.basics.proofs.Choice.{both_true, below_or_not}
use Rattle.basics.proofs.Tables.{below_at}
use Rattle.basics.proofs.Integers.{pos-≤}
use Rattle.basics.proofs.RoundingLaws.{rounded_down, down_rounded}
use Rattle.telemetry.specs.Ranges.{temperature_in_range}
use Rattle.telemetry.specs.Codes.{altitude_code, temperature_code, voltage_code, speed_code, metres, degrees, millivolts, knots}

-- ---- Temperature

-- The quotient is no larger than the number.
minus_small : (k : ℕ) → mag (neg_ℤ (pos k)) ≤ k
minus_small zero = omega arith
minus_small (suc k) = omega arith

pub quotient_small : (tenths : ℤ) → mag (quot_z tenths (pos 10)) ≤ mag tenths
quotient_small (pos n) = omega arith
quotient_small (negsuc n) = omega (arith, minus_small (suc n / 10))

-- Signed division rounds up where its remainder is below zero:
minus_one : (k : ℕ) → neg_ℤ (pos k) -ℤ pos 1 ≡ negsuc k
minus_one zero = refl
minus_one (suc k) = ap negsuc (omega arith)

minus_remainder : (k : ℕ) → lt_z (neg_ℤ (pos k)) (pos 0) ≡ true → 0 < k
minus_remainder zero e = absurd (false≢true e)
minus_remainder (suc k) e = omega arith

pub quotient_above : (tenths : ℤ) → lt_z (rem_z tenths (pos 10)) (pos 0) ≡ true → quot_z tenths (pos 10) -ℤ pos 1 ≡ shr_z tenths 10
quotient_above (pos n) e = absurd (omega (arith, ltb-true (n % 10) 0 e))
quotient_above (negsuc n) e =
    let same : suc n / 10 ≡ n / 10 = omega (arith, minus_remainder (suc n % 10) e) in
    rw same (minus_one (n / 10))

-- else it rounds down.
no_remainder : (k : ℕ) → lt_z (neg_ℤ (pos k)) (pos 0) ≡ false → k ≡ 0
no_remainder zero e = refl
no_remainder (suc k) e = absurd (true≢false e)

pub quotient_down : (tenths : ℤ) → lt_z (rem_z tenths (pos 10)) (pos 0) ≡ false → quot_z tenths (pos 10) -ℤ pos 0 ≡ shr_z tenths 10
quotient_down (pos n) e = ap pos (omega arith)
quotient_down (negsuc n) e =
    let next : suc n / 10 ≡ suc (n / 10) = omega (arith, no_remainder (suc n % 10) e) in
    rw next (+ℤ_idr (negsuc (n / 10)))

difference : (a b : ℕ) → b ≤ a → sub_ℕ a b ≡ pos (a - b)
difference a b h = rw (le-ltb a b h)

-- A temperature in range: its code, as the sum of which it is the absolute value, and as the number of whole degrees above -50.
pub record Coded (tenths : ℤ) : Type 0 where
  pub sum : shr_z tenths 10 +ℤ pos 50 ≡ pos (temperature_code tenths)
  pub below : temperature_code tenths < 90
  pub steps : temperature_code tenths ≡ nat_abs (tenths -ℤ neg_ℤ (pos 500)) / 10

pub coded : (tenths : ℤ) → temperature_in_range tenths ≡ true → Coded tenths
unfolding temperature_in_range temperature_code
coded (pos n) e =
    let high : n ≤ 399 = leb-true n 399 e in
    record { sum = refl; below = omega arith; steps = omega arith }
coded (negsuc n) e =
    let low : n ≤ 499 = leb-true n 499 (both_true (leb n 499) true e).0 in
    let sum = difference 50 (suc (n / 10)) (omega arith) in
    let above = difference 500 (suc n) (omega arith) in
    let code : nat_abs (sub_ℕ 50 (suc (n / 10))) ≡ 50 - suc (n / 10) = ap nat_abs sum in
    record { sum = rw sum; below = omega arith; steps = rw above (omega arith) }

degrees_small : (code : ℕ) → code < 90 → mag (degrees code) ≤ 50
unfolding degrees
degrees_small code h =
    below_or_not code 50
    (λ low. rw (lt-ltb code 50 low) (omega arith))
    (λ high. rw (le-ltb code 50 high) (omega arith))

pub degrees_fits : (code : ℕ) → code < 90 → SFits w32 (degrees code)
degrees_fits code h = record { sfits = omega (arith, degrees_small code h) }

-- The degrees of a code, in tenths, are in range and have the code: a test of all 90.
back_tests : (code : ℕ) → code < 90
    → (temperature_in_range (degrees code *ℤ pos 10) && eqb (temperature_code (degrees code *ℤ pos 10)) code) ≡ true
unfolding temperature_in_range temperature_code degrees
back_tests =
    below_at (λ (code : ℕ). temperature_in_range (degrees code *ℤ pos 10) && eqb (temperature_code (degrees code *ℤ pos 10)) code) 90 refl

pub temperature_back : (code : ℕ) → code < 90
    → (temperature_in_range (degrees code *ℤ pos 10) ≡ true) × (temperature_code (degrees code *ℤ pos 10) ≡ code)
temperature_back code h =
    let tests = both_true (temperature_in_range (degrees code *ℤ pos 10)) _ (back_tests code h) in
    (tests.0, eqb-true _ _ tests.1)

-- The code of a temperature, and the degrees that are read back.
unfoldable pub read_back : ℤ → ℕ × ℤ
read_back tenths = (temperature_code tenths, degrees (temperature_code tenths))

-- The ten tenths from -500 on have the first code and the eleventh has the second; -10 to -1 have the code of -1 degree and 0 to 9 that of 0
-- degrees; 389 has the last code but one, and 390 to 399 the last.
pub temperature_around_zero_and_ends :
    map read_back (map (λ (n : ℕ). sub_ℕ n 500) (tabulate 11 (λ n. n) ++ tabulate 20 (λ n. 490 + n) ++ tabulate 11 (λ n. 889 + n)))
    ≡ replicate 10 (0, neg_ℤ (pos 50))
    ++ ((1, neg_ℤ (pos 49)) ∷ [])
    ++ replicate 10 (49, neg_ℤ (pos 1))
    ++ replicate 10 (50, pos 0)
    ++ ((88, pos 38) ∷ [])
    ++ replicate 10 (89, pos 39)
unfolding read_back temperature_code degrees tabulate
temperature_around_zero_and_ends = refl

-- ---- Altitude, voltage and speed

pub altitude_below : (m : ℕ) → m ≤ 21_359 → altitude_code m < 1_068
unfolding altitude_code
altitude_below m h = omega arith

pub altitude_back : (code : ℕ) → code < 1_068 → (metres code ≤ 21_359) × (altitude_code (metres code) ≡ code)
unfolding altitude_code metres
altitude_back code h = omega arith

pub voltage_below : (mv : ℕ) → voltage_code mv < 40
unfolding voltage_code
voltage_below mv = omega arith

pub voltage_back : (code : ℕ) → code < 40
    → (3_000 ≤ millivolts code) × ((millivolts code ≤ 4_999) × (voltage_code (millivolts code) ≡ code))
unfolding voltage_code millivolts
voltage_back code h = omega arith

pub speed_below : (tenths : ℕ) → tenths ≤ 839 → speed_code tenths < 42
unfolding speed_code
speed_below tenths h = omega arith

pub speed_back : (code : ℕ) → code < 42 → (knots code * 10 ≤ 839) × (speed_code (knots code * 10) ≡ code)
unfolding speed_code knots
speed_back code h = omega arith

-- ---- What reads back is what was measured, rounded down to steps: in metres, tenths of a degree, millivolts and tenths of a knot

altitude_rounded : (altitude : ℕ) → pos (metres (altitude_code altitude)) ≡ rounded_down (pos 0) 20 (pos altitude)
unfolding altitude_code metres rounded_down
altitude_rounded altitude = ap pos (omega arith)

pub altitude_steps : (altitude : ℕ) → WithinStepBelow 20 (pos altitude) (pos (metres (altitude_code altitude)))
altitude_steps altitude = rw (altitude_rounded altitude) (down_rounded (pos 0) 20 (pos altitude) (omega arith) (pos-≤ 0 altitude (omega arith)))

minus : (k : ℕ) → 0 < k → neg_ℤ (pos k) ≡ negsuc (k - 1)
minus zero h = absurd (omega arith)
minus (suc k) h = ap negsuc (omega arith)

degrees_tenths : (code : ℕ) → degrees code *ℤ pos 10 ≡ neg_ℤ (pos 500) +ℤ pos (10 * code)
unfolding degrees
degrees_tenths code =
    below_or_not code 50
    (λ low.
    rw (lt-ltb code 50 low, lt-ltb (10 * code) 500 (omega arith))
    (minus (suc (50 - suc code) * 10) (omega arith) ∙ ap negsuc (omega arith)))
    (λ high. rw (le-ltb code 50 high, le-ltb (10 * code) 500 (omega arith)) (ap pos (omega arith)))

temperature_rounded : (tenths : ℤ) → temperature_in_range tenths ≡ true
    → degrees (temperature_code tenths) *ℤ pos 10 ≡ rounded_down (neg_ℤ (pos 500)) 10 tenths
unfolding rounded_down
temperature_rounded tenths e =
    degrees_tenths (temperature_code tenths) ∙ ap (λ (code : ℕ). neg_ℤ (pos 500) +ℤ pos (10 * code)) (coded tenths e).steps

pub temperature_steps : (tenths : ℤ) → temperature_in_range tenths ≡ true
    → WithinStepBelow 10 tenths (degrees (temperature_code tenths) *ℤ pos 10)
unfolding temperature_in_range
temperature_steps tenths e =
    let lowest = (both_true (le_z (neg_ℤ (pos 500)) tenths) _ e).0 in
    rw (temperature_rounded tenths e) (down_rounded (neg_ℤ (pos 500)) 10 tenths (omega arith) (le_z_yes (rw lowest tt)))

voltage_rounded : (voltage : ℕ) → 3_000 ≤ voltage → voltage ≤ 4_999
    → pos (millivolts (voltage_code voltage)) ≡ rounded_down (pos 3_000) 50 (pos voltage)
unfolding voltage_code millivolts rounded_down
voltage_rounded voltage low high = rw (le-ltb voltage 3_000 low) (ap pos (omega arith))

pub voltage_steps : (voltage : ℕ) → 3_000 ≤ voltage → voltage ≤ 4_999
    → WithinStepBelow 50 (pos voltage) (pos (millivolts (voltage_code voltage)))
voltage_steps voltage low high =
    rw (voltage_rounded voltage low high)
    (down_rounded (pos 3_000) 50 (pos voltage) (omega arith) (pos-≤ 3_000 voltage low))

speed_rounded : (tenths : ℕ) → pos (knots (speed_code tenths) * 10) ≡ rounded_down (pos 0) 20 (pos tenths)
unfolding speed_code knots rounded_down
speed_rounded tenths = ap pos (omega arith)

pub speed_steps : (tenths : ℕ) → WithinStepBelow 20 (pos tenths) (pos (knots (speed_code tenths) * 10))
speed_steps tenths = rw (speed_rounded tenths) (down_rounded (pos 0) 20 (pos tenths) (omega arith) (pos-≤ 0 tenths (omega arith)))
