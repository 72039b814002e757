-- Laws of one field: what is legal, the code of a reading and the reading of a code.
use mathlib.Core.Path.{◌≡◌, refl, sym, ap, ◌∙◌, subst}
use Prim.Native.Nat.{ℕ, zero, suc, ◌+◌, ◌-◌, ◌*◌, ◌/◌, ◌^◌, ◌≤◌, ◌<◌}
use native.Mathlib.Nat.{mul-le-mul_left, mul-le-mul_right, mul-one, one-mul, mul_comm, mul_assoc, suc-mul, add-zero, mul-add-div_right, div-eq_of_lt, div-lt_iff_lt-mul}
use native.Mathlib.Numerals.{sub-one}
use native.Mathlib.Omega.{arith}
use mathlib.Core.Bool.{Bool, true, false, true≢false, cond, ◌&&◌}
use lib.Dec.{T, leb}
use lib.IntN.{ℤ, pos, negsuc, nat_abs, ◌+ℤ◌, ◌-ℤ◌, +ℤ_idr}
use lib.Signed.{mag, non_neg, le_z, lt_z, ◌≤ℤ◌}
use mir.Facts.{to_z-of_z}
use mir.Syntax.{w64}
use mir.Val.{SFits, to_z, of_z}
use Rattle.std.specs.Int.{int_max, int_min}
use Rattle.std.proofs.Common.{is_le, Less, Greater, Equal}
use Rattle.std.proofs.lemmas.Int.{ints}
use borrow.Author.Tests.{le-leb, lt-leb, leb-true, le-ltb, lt-ltb}
use Rattle.basics.specs.Rounding.{WithinHalfStep}
use Rattle.basics.specs.Test.{betweenℤ}
use Rattle.basics.proofs.Choice.{both_true, by_test, below_or_not, between_true, between_range}
use Rattle.basics.proofs.Integers.{le_z_true, le_z_false, above, +ℤ-cancel-≤, nat_abs_above}
use Rattle.basics.proofs.RoundingLaws.{rounded_nearest}
use Rattle.extended.specs.Fields.{from_zero, field_of, field_reading, highest, fits_signed32, legal_field, clamped, code_of}
use Rattle.extended.specs.RoundTrip.{rounded}
use Rattle.extended.specs.declared.field.Field.{Field}

-- ---- What the library's tests and its clamp say

le_by_order : (a b : ℤ) → is_le (cond (lt_z a b) Less (cond (lt_z b a) Greater Equal)) ≡ le_z a b
le_by_order a b = grind (arith, ints)

-- `contains` of a range with both its ends.
pub range_tells : (low high x : ℤ) (r : Bool) → SFits w64 x
    → r ≡ (is_le (cond (lt_z low (to_z w64 (of_z w64 x))) Less (cond (lt_z (to_z w64 (of_z w64 x)) low) Greater Equal))
    && is_le (cond (lt_z (to_z w64 (of_z w64 x)) high) Less (cond (lt_z high (to_z w64 (of_z w64 x))) Greater Equal)))
    → r ≡ betweenℤ low high x
range_tells low high x r fits e = rw (to_z-of_z fits, le_by_order low x, le_by_order x high) at e

pub clamp_is : (low high x : ℤ) → low ≤ℤ high → int_max low (int_min x high) ≡ cond (le_z x low) low (cond (le_z high x) high x)
clamp_is low high x h = grind (arith, ints)

-- ---- Signed 32 bits

-- How far the largest number is above this one.
abbrev pub room : ℤ → ℕ
room lowest = nat_abs (pos 2_147_483_647 -ℤ lowest)

same_test : (a b c d : ℕ) → (a ≤ b → c ≤ d) → (b < a → d < c) → leb a b ≡ leb c d
same_test a b c d to from =
    below_or_not b a (λ h. rw (lt-leb a b h, lt-leb c d (from h))) (λ h. rw (le-leb a b h, le-leb c d (to h)))

-- A number that fits is small, and how far the largest is above it is below 2^32.
pub fits_small : (z : ℤ) → fits_signed32 z ≡ true → mag z < 2 ^ 31
unfolding fits_signed32
fits_small (pos n) e = omega (arith, leb-true n 2_147_483_647 e)
fits_small (negsuc n) e = omega (arith, leb-true n 2_147_483_647 (both_true (leb n 2_147_483_647) true e).0)

pub room_small : (z : ℤ) → fits_signed32 z ≡ true → room z < 2 ^ 32
unfolding fits_signed32
room_small (pos zero) e = omega arith
room_small (pos (suc n)) e = let high = leb-true (suc n) 2_147_483_647 e in rw (le-ltb 2_147_483_647 (suc n) high) (omega arith)
room_small (negsuc n) e = omega (arith, leb-true n 2_147_483_647 (both_true (leb n 2_147_483_647) true e).0)

-- A number above one that fits does so exactly if it isn't above the largest.
pub fits_raised : (z : ℤ) (n : ℕ) → fits_signed32 z ≡ true → fits_signed32 (z +ℤ pos n) ≡ leb n (room z)
unfolding fits_signed32
fits_raised (pos zero) n e = same_test (0 + n) 2_147_483_647 n 2_147_483_647 (λ h. omega arith) (λ h. omega arith)
fits_raised (pos (suc m)) n e =
    let high = leb-true (suc m) 2_147_483_647 e in
    rw (le-ltb 2_147_483_647 (suc m) high)
    (same_test (suc m + n) 2_147_483_647 n (2_147_483_647 - suc m) (λ h. omega arith) (λ h. omega arith))
fits_raised (negsuc m) n e =
    let low = leb-true m 2_147_483_647 (both_true (leb m 2_147_483_647) true e).0 in
    below_or_not n (suc m)
    (λ h. rw (lt-ltb n (suc m) h, le-leb (suc m - suc n) 2_147_483_647 (omega arith), le-leb n (2_147_483_647 + suc m) (omega arith)))
    (λ h. rw (le-ltb n (suc m) h)
    (same_test (n - suc m) 2_147_483_647 n (2_147_483_647 + suc m) (λ k. omega arith) (λ k. omega arith)))

-- ---- Legal fields

-- How far the highest reading is above the lowest.
abbrev pub span : Field → ℕ
span f = (f.count - 1) * f.step

pub record Legal (f : Field) : Type 0 where
  pub positive : 0 < f.step
  pub two : 2 ≤ f.count
  pub fits : fits_signed32 f.lowest ≡ true
  pub within : span f ≤ room f.lowest

pub legal : (f : Field) → legal_field f ≡ true → Legal f
unfolding legal_field highest field_reading
legal f e =
    let (step, rest) = both_true _ _ e in
    let (two, ends) = both_true _ _ rest in
    let (low, high) = both_true _ _ ends in
    record {
      positive = leb-true 1 f.step step;
      two = leb-true 2 f.count two;
      fits = low;
      within = leb-true _ _ (sym (fits_raised f.lowest (span f) low) ∙ high);
    }

-- Where the lowest fits, the rest of the test is that of step, count and span.
pub legal_field_fits : (f : Field) → fits_signed32 f.lowest ≡ true
    → legal_field f ≡ (leb 1 f.step && (leb 2 f.count && leb (span f) (room f.lowest)))
unfolding legal_field highest field_reading
legal_field_fits f e = rw (e, fits_raised f.lowest (span f) e)

-- No legal field has a longer step or more codes, and its highest reading is no further above the lowest.
pub span_small : (f : Field) → Legal f → span f < 2 ^ 32
span_small f l = omega (arith, l.within, room_small f.lowest l.fits)

pub step_small : (f : Field) → Legal f → f.step < 2 ^ 32
step_small f l =
    let once : 1 * f.step ≤ span f = mul-le-mul_right f.step (omega (arith, l.two)) in
    omega (arith, one-mul f.step, span_small f l)

pub count_small : (f : Field) → Legal f → f.count ≤ 2 ^ 32
count_small f l =
    let once : (f.count - 1) * 1 ≤ span f = mul-le-mul_left (f.count - 1) l.positive in
    omega (arith, mul-one (f.count - 1), span_small f l, l.two)

-- Every reading fits signed 32 bits.
pub raised_fits : (f : Field) (n : ℕ) → Legal f → n ≤ span f → fits_signed32 (f.lowest +ℤ pos n) ≡ true
raised_fits f n l h = fits_raised f.lowest n l.fits ∙ le-leb n (room f.lowest) (omega (arith, l.within))

-- So the machine, which has signed 64, takes it as it is.
pub lowest_fits : (f : Field) → Legal f → SFits w64 f.lowest
lowest_fits f l = record { sfits = omega (arith, fits_small f.lowest l.fits) }

pub raised_fits64 : (f : Field) (n : ℕ) → Legal f → n ≤ span f → SFits w64 (f.lowest +ℤ pos n)
raised_fits64 f n l h = record { sfits = omega (arith, fits_small (f.lowest +ℤ pos n) (raised_fits f n l h)) }

-- A code's reading is no further above the lowest than the highest is.
pub code_within : (f : Field) (code : ℕ) → code < f.count → code * f.step ≤ span f
code_within f code h = mul-le-mul_right f.step (omega arith)

-- ---- The three numbers of a legal field

-- The machine takes them as they are.
pub record Three (lowest step count : ℤ) : Type 0 where
  pub lowest_fits : SFits w64 lowest
  pub step_fits : SFits w64 step
  pub count_fits : SFits w64 count
  pub step_positive : T (non_neg step)
  pub count_positive : T (non_neg count)
  pub step_small : nat_abs step < 2 ^ 32
  pub count_small : nat_abs count ≤ 2 ^ 32
  pub is : ◌≡◌ {A = Field} (record { lowest = lowest; step = nat_abs step; count = nat_abs count }) (field_of lowest step count)

positive_fits : (z : ℤ) → 0 < from_zero z → from_zero z ≤ 2 ^ 32 → SFits w64 z × (T (non_neg z) × (nat_abs z ≡ from_zero z))
unfolding from_zero
positive_fits (pos n) h k = (record { sfits = omega arith }, (tt, refl))
positive_fits (negsuc n) h k = absurd (omega arith)

pub three : (lowest step count : ℤ) → legal_field (field_of lowest step count) ≡ true → Three lowest step count
unfolding field_of
three lowest step count e =
    let f = field_of lowest step count in
    let l = legal f e in
    let steps = positive_fits step l.positive (omega (arith, step_small f l)) in
    let counts = positive_fits count (omega (arith, l.two)) (count_small f l) in
    record {
      lowest_fits = record { sfits = omega (arith, fits_small lowest l.fits) };
      step_fits = steps.0;
      count_fits = counts.0;
      step_positive = steps.1.0;
      count_positive = counts.1.0;
      step_small = omega (arith, steps.1.1, step_small f l);
      count_small = omega (arith, counts.1.1, count_small f l);
      is = rw (steps.1.1, counts.1.1);
    }

-- ---- Whether three numbers are a legal field's

not_legal : (f : Field) → (Legal f → ⊥) → legal_field f ≡ false
not_legal f h = by_test (legal_field f) (λ e. absurd (h (legal f e))) (λ e. e)

step_between : (step : ℤ) → 0 < from_zero step → from_zero step < 2 ^ 32 → betweenℤ (pos 1) (pos 4_294_967_295) step ≡ true
unfolding from_zero
step_between (pos n) h k = between_true 1 4_294_967_295 n h (omega arith)
step_between (negsuc n) h k = absurd (omega arith)

count_between : (count : ℤ) → 2 ≤ from_zero count → from_zero count ≤ 2 ^ 32 → betweenℤ (pos 2) (pos 4_294_967_296) count ≡ true
unfolding from_zero
count_between (pos n) h k = between_true 2 4_294_967_296 n h (omega arith)
count_between (negsuc n) h k = absurd (omega arith)

pub not_lowest : (lowest step count : ℤ) → betweenℤ (negsuc 2_147_483_647) (pos 2_147_483_647) lowest ≡ false → legal_field (field_of lowest step count) ≡ false
unfolding field_of fits_signed32
not_lowest lowest step count e = not_legal (field_of lowest step count) (λ l. true≢false (sym l.fits ∙ e))

pub not_step : (lowest step count : ℤ) → betweenℤ (pos 1) (pos 4_294_967_295) step ≡ false → legal_field (field_of lowest step count) ≡ false
unfolding field_of
not_step lowest step count e =
    let f = field_of lowest step count in
    not_legal f (λ l. true≢false (sym (step_between step l.positive (step_small f l)) ∙ e))

pub not_count : (lowest step count : ℤ) → betweenℤ (pos 2) (pos 4_294_967_296) count ≡ false → legal_field (field_of lowest step count) ≡ false
unfolding field_of
not_count lowest step count e =
    let f = field_of lowest step count in
    not_legal f (λ l. true≢false (sym (count_between count l.two (count_small f l)) ∙ e))

-- A number that is above 0 is its own absolute value.
pub positive_is : (z : ℤ) → 0 < from_zero z → z ≡ pos (from_zero z)
unfolding from_zero
positive_is (pos n) h = refl
positive_is (negsuc n) h = absurd (omega arith)

between_above : (low high : ℕ) (z : ℤ) → betweenℤ (pos low) (pos high) z ≡ true → 0 < low → low ≤ from_zero z
unfolding from_zero
between_above low high (pos n) e h = (between_range low high n e).0
between_above low high (negsuc n) e h = absurd (true≢false (sym e))

-- Where the three tests hold, the last is whether the highest reading fits.
pub last_test : (lowest step count : ℤ) → betweenℤ (negsuc 2_147_483_647) (pos 2_147_483_647) lowest ≡ true
    → betweenℤ (pos 1) (pos 4_294_967_295) step ≡ true → betweenℤ (pos 2) (pos 4_294_967_296) count ≡ true
    → leb ((nat_abs count - 1) * nat_abs step) (room lowest) ≡ legal_field (field_of lowest step count)
unfolding field_of fits_signed32
last_test lowest step count low positive two =
    let steps = between_above 1 4_294_967_295 step positive (omega arith) in
    let counts = between_above 2 4_294_967_296 count two (omega arith) in
    let its_step : nat_abs step ≡ from_zero step = ap nat_abs (positive_is step (omega arith)) in
    let its_count : nat_abs count ≡ from_zero count = ap nat_abs (positive_is count (omega arith)) in
    rw (its_step, its_count, legal_field_fits (field_of lowest step count) low, le-leb 1 (from_zero step) steps, le-leb 2 (from_zero count) counts)

-- ---- Clamped readings

code_bound : (n step count : ℕ) → 0 < step → 2 ≤ count → n ≤ (count - 1) * step → (2 * n + step) / (2 * step) < count
code_bound n step zero p two h = absurd (omega arith)
code_bound n step (suc c) p two h =
    let at_most : n ≤ c * step = rw sub-one at h in
    let double : 0 < 2 * step = omega arith in
    let twice : suc c * (2 * step) ≡ 2 * (c * step) + 2 * step = rw (suc-mul c (2 * step), ← mul_assoc c 2 step, mul_comm c 2, mul_assoc 2 c step) in
    (div-lt_iff_lt-mul {x = 2 * n + step} {y = suc c} double).1 (omega arith)

code_exact : (code step : ℕ) → 0 < step → (2 * (code * step) + step) / (2 * step) ≡ code
code_exact code step p =
    let double : 0 < 2 * step = omega arith in
    let twice : 2 * (code * step) ≡ code * (2 * step) = rw (← mul_assoc 2 code step, mul_comm 2 code, mul_assoc code 2 step) in
    let less : step < 2 * step = omega arith in
    rw (twice, mul-add-div_right double, div-eq_of_lt less) (add-zero code)

module _ (f : Field) (l : Legal f) where
  -- A reading that is a code's or between two codes' stays.
  pub clamped_raised : (n : ℕ) → n ≤ span f → clamped f (f.lowest +ℤ pos n) ≡ f.lowest +ℤ pos n
  unfolding clamped highest field_reading
  clamped_raised n h =
      by_test (le_z (f.lowest +ℤ pos n) f.lowest)
      (λ low. rw low (sym (none (+ℤ-cancel-≤ f.lowest n 0 (rw (+ℤ_idr f.lowest) (le_z_true _ _ low))))))
      (λ not_low. by_test (le_z (f.lowest +ℤ pos (span f)) (f.lowest +ℤ pos n))
      (λ high. rw (not_low, high) (all (+ℤ-cancel-≤ f.lowest (span f) n (le_z_true _ _ high))))
      (λ not_high. rw (not_low, not_high)))
    where
      none : n ≤ 0 → f.lowest +ℤ pos n ≡ f.lowest
      none k = ap (λ (i : ℕ). f.lowest +ℤ pos i) {x = n} {y = 0} (omega arith) ∙ +ℤ_idr f.lowest

      all : span f ≤ n → f.lowest +ℤ pos (span f) ≡ f.lowest +ℤ pos n
      all k = ap (λ (i : ℕ). f.lowest +ℤ pos i) {x = span f} {y = n} (omega arith)

  -- A clamped reading is so far above the lowest, and not further than the highest is.
  record Clamped (x : ℤ) : Type 0 where
    n : ℕ
    within : n ≤ span f
    is : clamped f x ≡ f.lowest +ℤ pos n

  clamp_reading : (x : ℤ) → Clamped x
  unfolding clamped highest field_reading
  clamp_reading x =
      by_test (le_z x f.lowest)
      (λ low. record { n = 0; within = omega arith; is = rw low (sym (+ℤ_idr f.lowest)) })
      (λ not_low. by_test (le_z (f.lowest +ℤ pos (span f)) x)
      (λ high. record { n = span f; within = omega arith; is = rw (not_low, high) })
      (λ not_high. between not_low not_high (above f.lowest x (le_z_false x f.lowest not_low)) (le_z_false (f.lowest +ℤ pos (span f)) x not_high)))
    where
      between : le_z x f.lowest ≡ false → le_z (f.lowest +ℤ pos (span f)) x ≡ false → f.lowest +ℤ pos (nat_abs (x -ℤ f.lowest)) ≡ x
          → x ≤ℤ (f.lowest +ℤ pos (span f)) → Clamped x
      between not_low not_high e h = record {
        n = nat_abs (x -ℤ f.lowest);
        within = +ℤ-cancel-≤ f.lowest _ (span f) (subst (λ (z : ℤ). z ≤ℤ (f.lowest +ℤ pos (span f))) (sym e) h);
        is = rw (not_low, not_high) (sym e);
      }

  -- How far it is.
  abbrev pub offset : ℤ → ℕ
  offset x = nat_abs (clamped f x -ℤ f.lowest)

  offset_is : (x : ℤ) → offset x ≡ (clamp_reading x).n
  offset_is x = ap (λ (z : ℤ). nat_abs (z -ℤ f.lowest)) (clamp_reading x).is ∙ nat_abs_above f.lowest (clamp_reading x).n

  pub clamped_offset : (x : ℤ) → clamped f x ≡ f.lowest +ℤ pos (offset x)
  clamped_offset x = (clamp_reading x).is ∙ ap (λ (n : ℕ). f.lowest +ℤ pos n) (sym (offset_is x))

  pub offset_within : (x : ℤ) → offset x ≤ span f
  offset_within x = omega (arith, offset_is x, (clamp_reading x).within)

  -- ---- Codes

  pub code_below : (x : ℤ) → code_of f x < f.count
  unfolding code_of
  code_below x = code_bound (offset x) f.step f.count l.positive l.two (offset_within x)

  -- A code's reading has that code again.
  pub code_of_reading : (code : ℕ) → code < f.count → code_of f (field_reading f code) ≡ code
  unfolding code_of field_reading
  code_of_reading code h =
      let within : code * f.step ≤ span f = mul-le-mul_right f.step (omega arith) in
      rw (clamped_raised (code * f.step) within, nat_abs_above f.lowest (code * f.step)) (code_exact code f.step l.positive)

  -- What reads back is nearest to what was sent.
  pub rounded_within : (x : ℤ) → WithinHalfStep f.step (clamped f x) (rounded f x)
  unfolding rounded code_of field_reading
  rounded_within x =
      subst (λ (y : ℤ). WithinHalfStep f.step y (f.lowest +ℤ pos (code_of f x * f.step))) (sym (clamped_offset x))
      (rounded_nearest f.lowest f.step (offset x) l.positive)
