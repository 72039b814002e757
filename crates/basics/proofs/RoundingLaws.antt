-- The laws of steps: what a value is rounded down to is never above it and less than one step below it, and what it is rounded to, halves up,
-- is within half a step of it.
use mathlib.Core.Path.{◌≡◌, sym, subst}
use Prim.Native.Nat.{ℕ, zero, suc, ◌+◌, ◌-◌, ◌*◌, ◌/◌, ◌≤◌, ◌<◌}
use native.Mathlib.Nat.{mul_comm, mul_assoc, mul-div-le, lt-mul-div-succ}
use native.Mathlib.Omega.{arith}
use lib.Dec.{lt→ltb}
use lib.IntN.{ℤ, pos, neg_ℤ, nat_abs, sub_ℕ, ◌+ℤ◌, ◌-ℤ◌, ◌*ℤ◌, +ℤ_assoc}
use lib.Signed.{◌≤ℤ◌, ◌<ℤ◌, le_z_yes, lt_z_yes}
use borrow.Author.Tests.{le-ltb, lt-ltb}
use Rattle.basics.specs.Rounding.{WithinStepBelow, WithinHalfStep}
use Rattle.basics.proofs.Choice.{below_or_not}
use Rattle.basics.proofs.Integers.{pos-≤, +ℤ-mono-≤, +ℤ-mono-<, above, +ℤ-difference}

-- ---- Rounded down

-- A value that isn't below the lowest one, rounded down to a whole number of steps above it.
unfoldable pub rounded_down : (lowest : ℤ) (step : ℕ) → ℤ → ℤ
rounded_down lowest step x = lowest +ℤ pos (step * (nat_abs (x -ℤ lowest) / step))

steps_below : (lowest : ℤ) (step n : ℕ) → 0 < step → WithinStepBelow step (lowest +ℤ pos n) (lowest +ℤ pos (step * (n / step)))
steps_below lowest step n h =
    let next : lowest +ℤ pos (step * (n / step)) +ℤ pos step ≡ lowest +ℤ pos (step * (n / step) + step) = +ℤ_assoc lowest _ _ in
    record {
      not_above = +ℤ-mono-≤ lowest _ n (mul-div-le n step);
      within_step = rw next (+ℤ-mono-< lowest n _ (omega (arith, lt-mul-div-succ n h)));
    }

pub down_rounded : (lowest : ℤ) (step : ℕ) (x : ℤ) → 0 < step → lowest ≤ℤ x → WithinStepBelow step x (rounded_down lowest step x)
unfolding rounded_down
down_rounded lowest step x h k =
    subst (λ (y : ℤ). WithinStepBelow step y (rounded_down lowest step x)) (above lowest x k) (steps_below lowest step _ h)

-- ---- Rounded to the nearest, halves up

neg-≤ : (n k : ℕ) → neg_ℤ (pos n) ≤ℤ pos k
neg-≤ zero k = pos-≤ 0 k (omega arith)
neg-≤ (suc n) k = le_z_yes tt

neg-< : (n k : ℕ) → 0 < k → neg_ℤ (pos n) <ℤ pos k
neg-< zero k h = lt_z_yes (lt→ltb 0 k h)
neg-< (suc n) k h = lt_z_yes tt

-- Twice a difference of numbers that differ by at most so much.
twice-≤ : (m n k : ℕ) → 2 * m ≤ 2 * n + k → (pos 2 *ℤ sub_ℕ m n) ≤ℤ pos k
twice-≤ m n k h =
    below_or_not m n (λ low. rw (lt-ltb m n low) (neg-≤ (2 * suc (n - suc m)) k)) (λ high. rw (le-ltb m n high) (pos-≤ (2 * (m - n)) k (omega arith)))

twice-< : (m n k : ℕ) → 0 < k → 2 * m < 2 * n + k → (pos 2 *ℤ sub_ℕ m n) <ℤ pos k
twice-< m n k p h =
    below_or_not m n (λ low. rw (lt-ltb m n low) (neg-< (2 * suc (n - suc m)) k p))
    (λ high. rw (le-ltb m n high) (lt_z_yes (lt→ltb (2 * (m - n)) k (omega arith))))

twice_step : (code step : ℕ) → 2 * (code * step) ≡ 2 * step * code
twice_step code step = rw (mul_comm code step) (sym (mul_assoc 2 step code))

-- So many above the lowest, rounded to a whole number of steps above it.
pub rounded_nearest : (lowest : ℤ) (step n : ℕ) → 0 < step
    → WithinHalfStep step (lowest +ℤ pos n) (lowest +ℤ pos ((2 * n + step) / (2 * step) * step))
rounded_nearest lowest step n h =
    let code = (2 * n + step) / (2 * step) in
    let below : 2 * step * code ≤ 2 * n + step = mul-div-le (2 * n + step) (2 * step) in
    let two : 0 < 2 * step = omega arith in
    let next = lt-mul-div-succ (2 * n + step) two in
    let twice : 2 * (code * step) ≡ 2 * step * code = twice_step code step in
    record {
      not_far_above = rw (+ℤ-difference lowest (code * step) n) (twice-≤ (code * step) n step (omega arith));
      not_far_below = rw (+ℤ-difference lowest n (code * step)) (twice-< n (code * step) step h (omega arith));
    }
