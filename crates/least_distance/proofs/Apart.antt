-- The coded bits of any two different words differ in at least 28 places, and those of two words in exactly 28.
use mathlib.Core.Path.{◌≡◌, refl, sym, ap, ◌∙◌}
use mathlib.Core.Logic.{◌⊎◌, inl, inr}
use Prim.Native.Nat.{ℕ, ◌^◌, ◌≤◌, ◌<◌}
use native.Mathlib.Omega.{arith}
use mathlib.Core.List.{[], ◌++◌, append-nil}
use lib.Bits.{bit_xor, xor_lt, xor_add_and, and_le_l, and_le_r}
use lib.ListN.{length, replicate}
use Rattle.basics.proofs.Choice.{below_or_not}
use Rattle.radix.specs.Numeral.{count, digits_of}
use Rattle.convolution.specs.Code.{bits_of, clocked_bits, first_mask, second_mask, coded_bits}
use Rattle.convolution.proofs.CodeLaws.{length_clocked_bits, length_coded_bits}
use Rattle.distance.specs.Prefixes.{free_of, prefix_bits, prefixes_of, differences}
use Rattle.distance.proofs.Bits.{AllBits, bits_append, bits_zeros, bits_bits_of, summed, summed_same, differences_summed}
use Rattle.distance.proofs.Linear.{coded_bits_sum}
use Rattle.distance.proofs.PrefixLaws.{prefix_bits_injective, bits_coded_bits}
use Rattle.distance.proofs.Recentred.{zero_bits, coded_bits_zero}
use Rattle.trellis.proofs.Steps.{end_of, weight_of, end_append, FirstOne, Stays, zeros_or_one}
use Rattle.trellis.proofs.States.{onward, weight_coded, end_zero, end_below}
use Rattle.trellis.proofs.Running.{zero_free, counted_weight, weight_counted}
use Rattle.trellis.proofs.Onward.{ahead_response, onward_response}
use Rattle.trellis.proofs.OnwardLaws.{onward_running}
use Rattle.least_distance.specs.Least.{LeastDistance}
use Rattle.least_distance.proofs.Meeting.{never_light}

-- ---- One word and the zero word

zero_clocked : clocked_bits 0 ≡ replicate 81 0
unfolding clocked_bits bits_of digits_of count
zero_clocked = refl

module _ (word : ℕ) where
  bits_clocked : AllBits (clocked_bits word)
  unfolding clocked_bits
  bits_clocked = bits_append (bits_of 50 word) (replicate 31 0) (bits_bits_of 50 word) (bits_zeros 31)

  -- The 31 zeros after a word's bits lead to the zero state.
  returns : end_of onward 0 (clocked_bits word) ≡ 0
  unfolding clocked_bits
  returns =
      end_append onward 0 (bits_of 50 word) (replicate 31 0)
      ∙ end_zero (end_of onward 0 (bits_of 50 word)) (end_below 0 (bits_of 50 word) (omega arith))

  weight_word : differences (coded_bits word) zero_bits ≡ weight_of onward 0 (clocked_bits word)
  unfolding coded_bits
  weight_word = weight_coded 162 0 (clocked_bits word) bits_clocked (omega (arith, length_clocked_bits word))

  -- Only the zero word's bits are zeros.
  zeros_clocked : word < 2 ^ 50 → clocked_bits word ≡ replicate 81 0 → word ≡ 0
  unfolding clocked_bits prefix_bits prefixes_of free_of
  zeros_clocked h zeros = prefix_bits_injective 81 word 0 h (omega arith) (zeros ∙ sym zero_clocked)

  far_from_zero : word < 2 ^ 50 → (word ≡ 0 → ⊥) → 28 ≤ differences (coded_bits word) zero_bits
  far_from_zero h other =
      below_or_not (differences (coded_bits word) zero_bits) 28
      (λ near. absurd (by_first (omega (arith, weight_word)) (zeros_or_one onward refl (zero_free onward_running) (clocked_bits word) bits_clocked)))
      (λ far. far)
    where
      by_first : weight_of onward 0 (clocked_bits word) ≤ 27 → Stays onward (clocked_bits word) ⊎ FirstOne onward (clocked_bits word) → ⊥
      by_first near (inl (zeros, ends)) = other (zeros_clocked h (zeros ∙ ap (λ (n : ℕ). replicate n 0) (length_clocked_bits word)))
      by_first near (inr one) = never_light (clocked_bits word) one (omega (arith, length_clocked_bits word)) returns near

-- ---- Two words

-- They differ where their sum differs from zeros.
differences_sum : (v w : ℕ) → differences (coded_bits v) (coded_bits w) ≡ differences (coded_bits (bit_xor v w)) zero_bits
differences_sum v w =
    let size : length (coded_bits v) ≡ length (coded_bits w) = length_coded_bits v ∙ sym (length_coded_bits w) in
    let none : summed (coded_bits w ++ []) (coded_bits w) ≡ zero_bits =
    rw (append-nil (coded_bits w)) (summed_same 162 (coded_bits w) (length_coded_bits w)) in
    sym (differences_summed (coded_bits v) (coded_bits w) [] (coded_bits w) size (bits_coded_bits v) (bits_coded_bits w) (bits_coded_bits w))
    ∙ rw (none, ← coded_bits_sum v w)

xor_other : (v w : ℕ) → (v ≡ w → ⊥) → bit_xor v w ≡ 0 → ⊥
xor_other v w other none = other (omega (arith, xor_add_and v w, and_le_l v w, and_le_r v w))

apart : (v w : ℕ) → v < 2 ^ 50 → w < 2 ^ 50 → (v ≡ w → ⊥) → 28 ≤ differences (coded_bits v) (coded_bits w)
apart v w h k other = rw (differences_sum v w) (far_from_zero (bit_xor v w) (xor_lt 50 v w h k) (xor_other v w other))

-- ---- Exactly

weight_computed : counted_weight onward_response 0 (clocked_bits 0x546C3) ≡ 28
unfolding counted_weight ahead_response first_mask second_mask clocked_bits bits_of digits_of count
weight_computed = refl

nearest_two : differences (coded_bits 0x546C3) (coded_bits 0) ≡ 28
nearest_two =
    ap (differences (coded_bits 0x546C3)) coded_bits_zero
    ∙ weight_word 0x546C3
    ∙ weight_counted onward_running 0 (clocked_bits 0x546C3) (omega arith) (bits_clocked 0x546C3)
    ∙ rw onward_running.none_yet weight_computed

pub least_distance : LeastDistance 28 0x546C3 0
least_distance = record { apart = apart; in_50_bits = (omega arith, omega arith); exactly = nearest_two }
