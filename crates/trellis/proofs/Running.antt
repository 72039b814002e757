-- Counts that are kept along a path: for this step and for each later one, in how many places the masks meet the bits that are known. With
-- them a step is cheap to compute: a digit dropped is the next step, and a bit 1 adds one fixed number, its response.
use mathlib.Core.Path.{◌≡◌, refl, ◌∙◌}
use Prim.Native.Nat.{ℕ, zero, suc, ◌+◌, ◌-◌, ◌*◌, ◌/◌, ◌%◌, ◌^◌, ◌<◌}
use native.Mathlib.Omega.{arith}
use mathlib.Core.List.{List, [], ◌∷◌}
use lib.Bits.{bit_and, and_le_l}
use lib.Count.{ones, ones-le}
use Rattle.distance.proofs.Bits.{AllBits}
use Rattle.trellis.proofs.Steps.{Steps, weight_of}

-- Two counts below 64 in one digit below 4,096.
abbrev pub paired : ℕ → ℕ → ℕ
paired first second = first + 64 * second

-- The places in which a number meets two masks.
abbrev pub meeting : ℕ → ℕ → ℕ → ℕ
meeting first second number = paired (ones (bit_and number first)) (ones (bit_and number second))

-- What a step on a bit 0 weighs, by the counts. On a bit 1 it weighs what is left of 2.
abbrev pub zero_weight : ℕ → ℕ
zero_weight counts = counts % 2 + counts / 64 % 2

-- The counts of each state below 2^31, and the response to a bit 1, are those of these steps.
pub record Running (steps : Steps) (counts : ℕ → ℕ) (response : ℕ) : Type 0 where
  pub none_yet : counts 0 ≡ 0
  pub below : (state bit : ℕ) → state < 2 ^ 31 → bit < 2 → steps.to state bit < 2 ^ 31
  pub weight_zero : (state : ℕ) → state < 2 ^ 31 → steps.weight state 0 ≡ zero_weight (counts state)
  pub one_weight : (state : ℕ) → state < 2 ^ 31 → steps.weight state 1 ≡ 2 - zero_weight (counts state)
  pub zero_next : (state : ℕ) → state < 2 ^ 31 → counts (steps.to state 0) ≡ counts state / 4_096
  pub one_next : (state : ℕ) → state < 2 ^ 31 → counts (steps.to state 1) ≡ counts state / 4_096 + response

-- From the zero state a 0 weighs nothing and a 1 weighs 2; after it the counts are its response.
module _ {steps : Steps} {counts : ℕ → ℕ} {response : ℕ} (running : Running steps counts response) where
  pub zero_free : steps.weight 0 0 ≡ 0
  zero_free = running.weight_zero 0 (omega arith) ∙ rw running.none_yet

  pub one_weighs : steps.weight 0 1 ≡ 2
  one_weighs = running.one_weight 0 (omega arith) ∙ rw running.none_yet

  pub one_counts : counts (steps.to 0 1) ≡ response
  one_counts = running.one_next 0 (omega arith) ∙ rw running.none_yet (omega arith)

-- A path's weight, by the counts.
unfoldable pub counted_weight : ℕ → ℕ → List ℕ → ℕ
counted_weight response counts [] = 0
counted_weight response counts (zero ∷ bits) = zero_weight counts + counted_weight response (counts / 4_096) bits
counted_weight response counts (suc bit ∷ bits) = 2 - zero_weight counts + counted_weight response (counts / 4_096 + response) bits

pub weight_counted : {steps : Steps} {counts : ℕ → ℕ} {response : ℕ} → Running steps counts response
    → (state : ℕ) (bits : List ℕ) → state < 2 ^ 31 → AllBits bits → weight_of steps state bits ≡ counted_weight response (counts state) bits
unfolding AllBits weight_of counted_weight
weight_counted running state [] small are_bits = refl
weight_counted {steps} running state (zero ∷ bits) small are_bits =
    rw (
      running.weight_zero state small,
      ← running.zero_next state small,
      weight_counted running (steps.to state 0) bits (running.below state 0 small (omega arith)) are_bits.1,
    )
weight_counted {steps} running state (suc zero ∷ bits) small are_bits =
    rw (
      running.one_weight state small,
      ← running.one_next state small,
      weight_counted running (steps.to state 1) bits (running.below state 1 small (omega arith)) are_bits.1,
    )
weight_counted running state (suc (suc bit) ∷ bits) small are_bits = absurd (omega (arith, are_bits.0))

-- ---- Digits

-- The lowest digit, and those after it.
pub digit_dropped : (first second rest : ℕ) → first < 64 → second < 64 → (paired first second + 4_096 * rest) / 4_096 ≡ rest
digit_dropped first second rest h k = omega arith

-- The first count's lowest bit, and the second's.
pub digit_first : (first second rest : ℕ) → (paired first second + 4_096 * rest) % 2 ≡ first % 2
digit_first first second rest = omega arith

pub digit_second : (first second rest : ℕ) → first < 64 → (paired first second + 4_096 * rest) / 64 % 2 ≡ second % 2
digit_second first second rest h =
    let next : (paired first second + 4_096 * rest) / 64 ≡ second + 64 * rest = omega arith in
    rw next (omega arith)

-- Equal lowest bits stay equal with a bit added to both.
pub lowest_added : (bit m n : ℕ) → m % 2 ≡ n % 2 → (bit + m) % 2 ≡ (bit + n) % 2
lowest_added bit m n e = omega arith

-- Where neither count has one more, both coded bits are the same.
pub none_more : (first second : ℕ) → (0 + first) % 2 + (0 + second) % 2 ≡ first % 2 + second % 2
none_more first second = omega arith

-- Where both counts have one more, both coded bits are the other ones.
pub both_other : (first second : ℕ) → (1 + first) % 2 + (1 + second) % 2 ≡ 2 - (first % 2 + second % 2)
both_other first second = omega arith

pub meets_below : (number mask : ℕ) → number < 2 ^ 31 → ones (bit_and number mask) < 64
meets_below number mask h = omega (arith, ones-le 31 (bit_and number mask) (omega (arith, and_le_l number mask)))
