-- Laws of numerals: a digit's value by its byte, one turn of the reading, and the bound of what is read.
use mathlib.Core.Path.{◌≡◌, refl}
use Prim.Native.Nat.{ℕ, ◌+◌, ◌*◌, ◌^◌, ◌≤◌, ◌<◌}
use native.Mathlib.Nat.{pow-zero, pow-suc, pow-le-pow_left, pow-le-pow_right}
use native.Mathlib.Numerals.{add-one}
use native.Mathlib.Omega.{arith}
use mathlib.Core.Bool.{true, cond}
use mathlib.Core.List.{List, [], ◌∷◌, map}
use lib.Arith.{digits_lt}
use lib.Dec.{ltb}
use lib.ListN.{length, get_or, drop, replicate, drop_of_length-le}
use lib.Seq.{drop-cons}
use borrow.Author.Tests.{lt-ltb, le-ltb, ltb-true}
use Rattle.std.specs.Prelude.{Option, Some, None}
use Rattle.radix.specs.Numeral.{Digits, number_from, number_of}
use Rattle.radix.proofs.Laws.{count_same, number_below}
use Rattle.basics.proofs.Choice.{both_true, by_test, cond_held}
use Rattle.wsjtx_vectors.specs.Number.{digit_value, byte_value, all_digits, number_in}

-- ---- Reading, digit by digit

-- n, then for each byte: times the base, plus the digit; no number from a byte on that is no digit.
unfoldable pub read_from : ℕ → ℕ → List ℕ → Option ℕ
read_from base n [] = Some n
read_from base n (b ∷ bs) = cond (ltb (byte_value b) base) (read_from base (n * base + byte_value b) bs) None

-- It reads what the definition says.
read_from_numeral : (base n : ℕ) (bs : List ℕ)
    → read_from base n bs
    ≡ cond (all_digits base bs) (Some (number_from n (replicate (length bs) base) (map byte_value bs))) None
unfolding read_from all_digits number_from
read_from_numeral base n [] = refl
read_from_numeral base n (b ∷ bs) =
    by_test (ltb (byte_value b) base)
    (λ e. rw e (read_from_numeral base (n * base + byte_value b) bs))
    (λ e. rw e)

-- Bytes up to i were read and wrote n.
pub record Reading (base : ℕ) (numeral : List ℕ) (n i : ℕ) : Type 0 where
  pub same : read_from base n (drop i numeral) ≡ number_in base numeral
  pub below : n < base ^ i

pub reading_starts : (base : ℕ) (numeral : List ℕ) → Reading base numeral 0 0
unfolding number_in number_of
reading_starts base numeral = record { same = read_from_numeral base 0 numeral; below = rw pow-zero (omega arith) }

pub reading_ends : {base n i : ℕ} {numeral : List ℕ} → Reading base numeral n i → length numeral ≤ i → Some n ≡ number_in base numeral
unfolding read_from
reading_ends {numeral = numeral} r h = rw (drop_of_length-le numeral h) at r.same

module _ {base n i : ℕ} {numeral : List ℕ} (r : Reading base numeral n i) where
  -- What comes of the next digit fits.
  pub reading_fits : {d : ℕ} → d < base → base ≤ 16 → i + 1 ≤ 16 → n * base + d < 2 ^ 64
  reading_fits {d} h low room =
      let below : n * base + d < base ^ (i + 1) = rw (add-one, pow-suc) (digits_lt r.below h) in
      let least : base ^ (i + 1) ≤ 16 ^ (i + 1) = pow-le-pow_left low (i + 1) in
      let most : 16 ^ (i + 1) ≤ 16 ^ 16 = pow-le-pow_right {n = 16} (omega arith) room in
      omega arith

  module _ (within : i < length numeral) where
    pub reading_digit : {d : ℕ} → digit_value (get_or numeral i 0) ≡ Some d → d < base → Reading base numeral (n * base + d) (i + 1)
    unfolding read_from byte_value
    reading_digit {d} e h = record {
      same = rw add-one (rw (drop-cons numeral i 0 within, e, lt-ltb d base h) at r.same);
      below = rw (add-one, pow-suc) (digits_lt r.below h);
    }

    -- A digit of a larger base, or no digit at all.
    pub reading_large : {d : ℕ} → digit_value (get_or numeral i 0) ≡ Some d → base ≤ d → None ≡ number_in base numeral
    unfolding read_from byte_value
    reading_large {d} e h = rw (drop-cons numeral i 0 within, e, le-ltb d base h) at r.same

    pub reading_other : digit_value (get_or numeral i 0) ≡ None → base ≤ 16 → None ≡ number_in base numeral
    unfolding read_from byte_value
    reading_other e h = rw (drop-cons numeral i 0 within, e, le-ltb 16 base h) at r.same

-- ---- Bounds

digits_of_all : (base : ℕ) (bs : List ℕ) → all_digits base bs ≡ true → Digits (replicate (length bs) base) (map byte_value bs)
unfolding all_digits Digits
digits_of_all base [] h = tt
digits_of_all base (b ∷ bs) h =
    let tests = both_true (ltb (byte_value b) base) (all_digits base bs) h in
    (ltb-true (byte_value b) base tests.0, digits_of_all base bs tests.1)

-- A number is below the base to the power of its digits' count.
pub numeral_below : (base : ℕ) (numeral : List ℕ) (v : ℕ) → number_in base numeral ≡ Some v → v < base ^ length numeral
unfolding number_in
numeral_below base numeral v e =
    let radices : List ℕ = replicate (length numeral) base in
    let held = cond_held (all_digits base numeral) e (λ other. cc) in
    let same : number_of radices (map byte_value numeral) ≡ v = cc held.1 in
    rw (← same, ← count_same (length numeral) base) (number_below radices (map byte_value numeral) (digits_of_all base numeral held.0))
