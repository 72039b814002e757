-- Lists of bits that differ in one place: their sum modulo 2 is 1 there, and 0 elsewhere.
use mathlib.Core.Path.{◌≡◌, refl, ap}
use Prim.Native.Nat.{ℕ, zero, suc, ◌+◌, ◌%◌, ◌<◌}
use native.Mathlib.Omega.{arith}
use mathlib.Core.List.{List, [], ◌∷◌}
use lib.ListN.{length, get_or, replicate, length-replicate}
use Rattle.basics.proofs.Choice.{equal_or_not}
use Rattle.distance.specs.Prefixes.{differences}
use Rattle.distance.proofs.Bits.{AllBits, bits_zeros, summed, summed_same, alike, not_alike, differences_zero}

-- So many bits: a 1 at an index, and zeros.
unfoldable pub one_at : ℕ → ℕ → List ℕ
one_at zero index = []
one_at (suc n) zero = 1 ∷ replicate n 0
one_at (suc n) (suc index) = 0 ∷ one_at n index

pub length_one_at : (n index : ℕ) → length (one_at n index) ≡ n
unfolding one_at
length_one_at zero index = refl
length_one_at (suc n) zero = ap suc (length-replicate n 0)
length_one_at (suc n) (suc index) = ap suc (length_one_at n index)

pub bits_one_at : (n index : ℕ) → AllBits (one_at n index)
unfolding one_at AllBits
bits_one_at zero index = tt
bits_one_at (suc n) zero = (omega arith, bits_zeros n)
bits_one_at (suc n) (suc index) = (omega arith, bits_one_at n index)

-- Two lists of n bits differ at an index, and nowhere else.
pub record ApartAt (n : ℕ) (xs ys : List ℕ) : Type 0 where
  pub index : ℕ
  pub within : index < n
  pub apart : get_or xs index 0 ≡ get_or ys index 0 → ⊥
  pub elsewhere : (i : ℕ) → (i ≡ index → ⊥) → get_or xs i 0 ≡ get_or ys i 0
  pub sum : summed xs ys ≡ one_at n index

-- ---- With one bit more

module _ (n x y : ℕ) (xs ys : List ℕ) where
  -- The first bits are alike.
  alike_first : x ≡ y → ApartAt n xs ys → ApartAt (suc n) (x ∷ xs) (y ∷ ys)
  unfolding summed one_at
  alike_first same later =
      let even : (x + y) % 2 ≡ 0 = omega arith in
      record {
        index = suc later.index;
        within = omega (arith, later.within);
        apart = later.apart;
        elsewhere = beside;
        sum = rw (even, later.sum);
      }
    where
      beside : (i : ℕ) → (i ≡ suc later.index → ⊥) → get_or (x ∷ xs) i 0 ≡ get_or (y ∷ ys) i 0
      beside zero other = same
      beside (suc i) other = later.elsewhere i (λ e. other (ap suc e))

  -- The first bits differ, and the others are alike.
  apart_first : x < 2 → y < 2 → (x ≡ y → ⊥) → length xs ≡ n → xs ≡ ys → ApartAt (suc n) (x ∷ xs) (y ∷ ys)
  unfolding summed one_at
  apart_first h k other size same =
      let odd : (x + y) % 2 ≡ 1 = omega (arith, other) in
      record {
        index = 0;
        within = omega arith;
        apart = other;
        elsewhere = beside;
        sum = rw (odd, ← same, summed_same n xs size);
      }
    where
      beside : (i : ℕ) → (i ≡ 0 → ⊥) → get_or (x ∷ xs) i 0 ≡ get_or (y ∷ ys) i 0
      beside zero first = absurd (first refl)
      beside (suc i) first = ap (λ (bits : List ℕ). get_or bits i 0) same

-- One difference is at an index.
pub one_apart : (n : ℕ) (xs ys : List ℕ) → AllBits xs → AllBits ys → length xs ≡ n → length ys ≡ n → differences xs ys ≡ 1 → ApartAt n xs ys
unfolding AllBits differences
one_apart n [] ys h k e f one = absurd (omega arith)
one_apart n (x ∷ xs) [] h k e f one = absurd (omega arith)
one_apart zero (x ∷ xs) (y ∷ ys) h k e f one = absurd (omega arith)
one_apart (suc n) (x ∷ xs) (y ∷ ys) h k e f one =
    equal_or_not x y
    (λ same.
    let later : differences xs ys ≡ 1 = omega (arith, alike x y same) in
    alike_first n x y xs ys same (one_apart n xs ys h.1 k.1 (omega arith) (omega arith) later))
    (λ other.
    let none : differences xs ys ≡ 0 = omega (arith, not_alike x y other) in
    apart_first n x y xs ys h.0 k.0 other (omega arith) (differences_zero xs ys (omega arith) none))
