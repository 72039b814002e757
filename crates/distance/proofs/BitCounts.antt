-- How many lists of m bits pass a test: the same as how many numbers below 2^m whose bits do, and unchanged by a sum with fixed bits.
use mathlib.Core.Path.{◌≡◌, refl, ap, ap₂, ◌∙◌}
use Prim.Native.Nat.{ℕ, zero, suc, ◌+◌, ◌*◌, ◌^◌, ◌<◌}
use native.Mathlib.Nat.{pow-suc, add_comm, div-eq_of_lt, add-mul-div_right}
use native.Mathlib.Omega.{arith}
use mathlib.Core.Bool.{Bool, cond}
use mathlib.Core.List.{List, [], ◌∷◌}
use lib.ListN.{length, replicate}
use lib.Pow.{pow_pos}
use Rattle.basics.specs.Below.{count_below}
use Rattle.basics.proofs.BelowLaws.{count_same, count_append, count_of_one}
use Rattle.radix.specs.Numeral.{count, digits_of}
use Rattle.radix.proofs.Laws.{digits_of_front}
use Rattle.convolution.specs.Code.{bits_of}
use Rattle.convolution.proofs.CodeLaws.{count_bits, positive_bits}
use Rattle.distance.proofs.Bits.{AllBits, summed}

-- Those with a first bit 0, and those with a first bit 1.
unfoldable pub count_bit_lists : ℕ → (List ℕ → Bool) → ℕ
count_bit_lists zero test = cond (test []) 1 0
count_bit_lists (suc m) test = count_bit_lists m (λ bits. test (0 ∷ bits)) + count_bit_lists m (λ bits. test (1 ∷ bits))

pub count_bit_lists_same : (m : ℕ) (t u : List ℕ → Bool) → ((bits : List ℕ) → length bits ≡ m → AllBits bits → t bits ≡ u bits)
    → count_bit_lists m t ≡ count_bit_lists m u
unfolding count_bit_lists AllBits
count_bit_lists_same zero t u h = rw (h [] refl tt)
count_bit_lists_same (suc m) t u h =
    ap₂ (λ (a b : ℕ). a + b)
    (count_bit_lists_same m (λ bits. t (0 ∷ bits)) (λ bits. u (0 ∷ bits)) (λ bits e k. h (0 ∷ bits) (ap suc e) (omega arith, k)))
    (count_bit_lists_same m (λ bits. t (1 ∷ bits)) (λ bits. u (1 ∷ bits)) (λ bits e k. h (1 ∷ bits) (ap suc e) (omega arith, k)))

-- ---- Bits of numbers

first_zero : (m n : ℕ) → n < 2 ^ m → bits_of (suc m) n ≡ 0 ∷ bits_of m n
unfolding bits_of digits_of
first_zero m n h = rw (count_bits m, div-eq_of_lt h)

first_one : (m n : ℕ) → n < 2 ^ m → bits_of (suc m) (2 ^ m + n) ≡ 1 ∷ bits_of m n
unfolding bits_of digits_of
first_one m n h =
    let last : 2 ^ m + n ≡ n + 1 * 2 ^ m = omega arith in
    let front : 2 ^ m + n ≡ 1 * count (replicate m 2) + n = rw (count_bits m) (omega arith) in
    let others : digits_of (replicate m 2) (2 ^ m + n) ≡ digits_of (replicate m 2) n =
    rw front (digits_of_front (replicate m 2) 1 n (positive_bits m)) in
    rw (others, last, count_bits m, add-mul-div_right n 1 (pow_pos m), div-eq_of_lt h)

pub count_by_bits : (m : ℕ) (test : List ℕ → Bool) → count_below (2 ^ m) (λ number. test (bits_of m number)) ≡ count_bit_lists m test
unfolding count_bit_lists bits_of digits_of
count_by_bits zero test = count_of_one (λ number. test (bits_of 0 number))
count_by_bits (suc m) test =
    let halves : 2 ^ suc m ≡ 2 ^ m + 2 ^ m = rw (pow-suc 2 m) (omega arith) in
    let t : ℕ → Bool = λ number. test (bits_of (suc m) number) in
    ap (λ (n : ℕ). count_below n t) halves
    ∙ count_append (2 ^ m) (2 ^ m) t
    ∙ ap₂ (λ (a b : ℕ). a + b)
    (count_same (2 ^ m) t (λ number. test (0 ∷ bits_of m number)) (λ i h. ap test (first_zero m i h)) ∙ count_by_bits m (λ bits. test (0 ∷ bits)))
    (count_same (2 ^ m) (λ i. t (2 ^ m + i)) (λ number. test (1 ∷ bits_of m number)) (λ i h. ap test (first_one m i h))
    ∙ count_by_bits m (λ bits. test (1 ∷ bits)))

-- ---- Sums

pub count_bit_lists_summed : (m : ℕ) (test : List ℕ → Bool) (fixed : List ℕ) → length fixed ≡ m → AllBits fixed
    → count_bit_lists m (λ bits. test (summed bits fixed)) ≡ count_bit_lists m test
unfolding count_bit_lists AllBits summed
count_bit_lists_summed zero test [] e h = refl
count_bit_lists_summed zero test (x ∷ fixed) e h = absurd (omega arith)
count_bit_lists_summed (suc m) test [] e h = absurd (omega arith)
count_bit_lists_summed (suc m) test (zero ∷ fixed) e h =
    ap₂ (λ (a b : ℕ). a + b)
    (count_bit_lists_summed m (λ bits. test (0 ∷ bits)) fixed (omega arith) h.1)
    (count_bit_lists_summed m (λ bits. test (1 ∷ bits)) fixed (omega arith) h.1)
count_bit_lists_summed (suc m) test (suc zero ∷ fixed) e h =
    ap₂ (λ (a b : ℕ). a + b)
    (count_bit_lists_summed m (λ bits. test (1 ∷ bits)) fixed (omega arith) h.1)
    (count_bit_lists_summed m (λ bits. test (0 ∷ bits)) fixed (omega arith) h.1)
    ∙ add_comm (count_bit_lists m (λ bits. test (1 ∷ bits))) (count_bit_lists m (λ bits. test (0 ∷ bits)))
count_bit_lists_summed (suc m) test (suc (suc x) ∷ fixed) e h = absurd (omega (arith, h.0))
