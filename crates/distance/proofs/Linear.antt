-- The code is linear: the coded bits of a sum modulo 2 are the sum of the coded bits.
use mathlib.Core.Path.{◌≡◌, refl, sym, ap, ap₂, ◌∙◌}
use Prim.Native.Nat.{ℕ, zero, suc, ◌+◌, ◌*◌, ◌/◌, ◌%◌, ◌^◌, ◌<◌}
use native.Mathlib.Nat.{mod-lt}
use native.Mathlib.Omega.{arith}
use mathlib.Core.List.{List, [], ◌∷◌, ◌++◌}
use lib.Bits.{bit_xor, xor_step, xor_mod, xor_shr}
use lib.ListN.{length, replicate}
use Rattle.radix.specs.Numeral.{digits_of}
use Rattle.convolution.specs.Code.{bits_of, clocked_bits, clocked, first_mask, second_mask, coded_from, coded_bits}
use Rattle.convolution.proofs.CodeLaws.{count_bits, length_bits_of}
use Rattle.convolution.proofs.ParityLaws.{differ_small, xor_odd, parity_sum}
use Rattle.distance.proofs.Bits.{AllBits, bits_append, bits_zeros, bits_bits_of, summed, summed_append, summed_zeros}

-- ---- Registers

clocked_sum : (r s x y : ℕ) → x < 2 → y < 2 → clocked (bit_xor r s) ((x + y) % 2) ≡ bit_xor (clocked r x) (clocked s y)
unfolding clocked
clocked_sum r s x y h k =
    let first_half : (r * 2 + x) / 2 ≡ r = omega arith in
    let first_odd : (r * 2 + x) % 2 ≡ x = omega arith in
    let second_half : (s * 2 + y) / 2 ≡ s = omega arith in
    let second_odd : (s * 2 + y) % 2 ≡ y = omega arith in
    sym (rw (← xor_mod (r * 2 + x) (s * 2 + y) 32, xor_step (r * 2 + x) (s * 2 + y), first_half, first_odd, second_half, second_odd, differ_small x y h k))

-- ---- The coded bits

pub coded_from_sum : (r s u v : ℕ) (xs ys : List ℕ) → AllBits xs → AllBits ys
    → coded_from (bit_xor r u) (bit_xor s v) (summed xs ys) ≡ summed (coded_from r s xs) (coded_from u v ys)
unfolding AllBits summed coded_from
coded_from_sum r s u v [] ys h k = refl
coded_from_sum r s u v (x ∷ xs) [] h k = refl
coded_from_sum r s u v (x ∷ xs) (y ∷ ys) h k =
    rw (
      clocked_sum r u x y h.0 k.0,
      clocked_sum s v x y h.0 k.0,
      parity_sum first_mask (clocked r x) (clocked u y),
      parity_sum second_mask (clocked s x) (clocked v y),
      coded_from_sum (clocked r x) (clocked s x) (clocked u y) (clocked v y) xs ys h.1 k.1,
    )

-- ---- Words

bits_of_sum : (n v w : ℕ) → bits_of n (bit_xor v w) ≡ summed (bits_of n v) (bits_of n w)
unfolding bits_of digits_of summed
bits_of_sum zero v w = refl
bits_of_sum (suc n) v w =
    let high = v / 2 ^ n in
    let other = w / 2 ^ n in
    let first : bit_xor v w / 2 ^ n % 2 ≡ (high % 2 + other % 2) % 2 =
    rw (xor_shr v w n, xor_odd high other)
    (differ_small (high % 2) (other % 2) (mod-lt high (omega arith)) (mod-lt other (omega arith))) in
    rw (count_bits n, first, bits_of_sum n v w)

-- The coded bits of two words' sum are the sum of their coded bits.
pub coded_bits_sum : (v w : ℕ) → coded_bits (bit_xor v w) ≡ summed (coded_bits v) (coded_bits w)
unfolding coded_bits clocked_bits
coded_bits_sum v w =
    let zeros : List ℕ = replicate 31 0 in
    let size : length (bits_of 50 v) ≡ length (bits_of 50 w) = length_bits_of 50 v ∙ sym (length_bits_of 50 w) in
    let clocked_sum : bits_of 50 (bit_xor v w) ++ zeros ≡ summed (bits_of 50 v ++ zeros) (bits_of 50 w ++ zeros) =
    ap₂ (λ (a b : List ℕ). a ++ b) (bits_of_sum 50 v w) (sym (summed_zeros 31))
    ∙ sym (summed_append (bits_of 50 v) (bits_of 50 w) zeros zeros size) in
    ap (coded_from 0 0) clocked_sum
    ∙ coded_from_sum 0 0 0 0 (bits_of 50 v ++ zeros) (bits_of 50 w ++ zeros)
    (bits_append (bits_of 50 v) zeros (bits_bits_of 50 v) (bits_zeros 31))
    (bits_append (bits_of 50 w) zeros (bits_bits_of 50 w) (bits_zeros 31))
