-- The counts that are kept backwards: digit i says in how many places each mask meets the state moved down by i places, as it will i steps
-- back if zeros are taken up.
use mathlib.Core.Path.{◌≡◌, refl, sym, ap, ◌∙◌}
use Prim.Native.Nat.{ℕ, zero, suc, ◌+◌, ◌*◌, ◌/◌, ◌%◌, ◌^◌, ◌<◌}
use native.Mathlib.Nat.{pow-suc}
use native.Mathlib.Omega.{arith}
use lib.Bits.{bit_and, and_zero_l}
use lib.Count.{ones}
use lib.Pow.{shr-shr}
use Rattle.convolution.specs.Code.{first_mask, second_mask, parity}
use Rattle.convolution.proofs.CodeLaws.{ones_and}
use Rattle.trellis.proofs.States.{register_weight, backward}
use Rattle.trellis.proofs.Running.{paired, meeting, zero_weight, Running, digit_dropped, digit_first, digit_second, lowest_added, both_other, meets_below}

-- The first k digits.
unfoldable pub behind : ℕ → ℕ → ℕ
behind zero state = 0
behind (suc k) state = meeting first_mask second_mask state + 4_096 * behind k (state / 2)

-- What a bit 1 adds to them, as the highest of k bits.
unfoldable pub behind_response : ℕ → ℕ
behind_response zero = 0
behind_response (suc k) = paired (first_mask / 2 ^ k % 2) (second_mask / 2 ^ k % 2) + 4_096 * behind_response k

abbrev pub backward_counts : ℕ → ℕ
backward_counts state = behind 31 state

abbrev pub backward_response : ℕ
backward_response = behind_response 31

-- A new highest bit meets the mask's there.
meets_higher : (k state mask : ℕ) → state < 2 ^ k → ones (bit_and (state + 2 ^ k) mask) ≡ mask / 2 ^ k % 2 + ones (bit_and state mask)
unfolding ones
meets_higher zero state mask h =
    let none : state ≡ 0 = omega arith in
    rw (none, ones_and 1 mask, and_zero_l mask, and_zero_l (mask / 2)) (omega arith)
meets_higher (suc k) state mask h =
    let half : (state + 2 ^ suc k) / 2 ≡ state / 2 + 2 ^ k = omega (arith, pow-suc 2 k) in
    let lowest : (state + 2 ^ suc k) % 2 ≡ state % 2 = omega (arith, pow-suc 2 k) in
    let longer : suc k ≡ 1 + k = omega arith in
    let there : mask / 2 / 2 ^ k ≡ mask / 2 ^ suc k = rw longer (shr-shr mask 1 k) in
    let higher = meets_higher k (state / 2) (mask / 2) (omega (arith, pow-suc 2 k)) in
    rw (ones_and (state + 2 ^ suc k) mask, half, lowest, higher, ones_and state mask, there)
    (omega arith)

behind_higher : (i k state : ℕ) → i < k → state < 2 ^ i → behind k (state + 2 ^ i) ≡ behind k state + behind_response (suc i)
unfolding behind behind_response
behind_higher i zero state h small = absurd (omega arith)
behind_higher zero (suc k) state h small =
    let none : state ≡ 0 = omega arith in
    let nothing : behind k ((state + 1) / 2) ≡ behind k (state / 2) = rw none in
    omega (arith, nothing, meets_higher 0 state first_mask small, meets_higher 0 state second_mask small)
behind_higher (suc i) (suc k) state h small =
    let half : (state + 2 ^ suc i) / 2 ≡ state / 2 + 2 ^ i = omega (arith, pow-suc 2 i) in
    rw half
    (omega (
      arith,
      meets_higher (suc i) state first_mask small,
      meets_higher (suc i) state second_mask small,
      behind_higher i k (state / 2) (omega arith) (omega (arith, pow-suc 2 i)),
    ))

behind_enough : (k state : ℕ) → state < 2 ^ k → behind (suc k) state ≡ behind k state
unfolding behind ones
behind_enough zero state h =
    let none : state ≡ 0 = omega arith in
    rw (none, and_zero_l first_mask, and_zero_l second_mask)
behind_enough (suc k) state h =
    ap (λ (rest : ℕ). meeting first_mask second_mask state + 4_096 * rest) (behind_enough k (state / 2) (omega (arith, pow-suc 2 k)))

module _ (state : ℕ) (h : state < 2 ^ 31) where
  abbrev first_met : ℕ
  first_met = ones (bit_and state first_mask)

  abbrev second_met : ℕ
  second_met = ones (bit_and state second_mask)

  backward_dropped : backward_counts state / 4_096 ≡ behind 30 (state / 2)
  unfolding behind
  backward_dropped = digit_dropped first_met second_met _ (meets_below state first_mask h) (meets_below state second_mask h)

  backward_rest : backward_counts state / 4_096 ≡ behind 31 (state / 2)
  backward_rest = backward_dropped ∙ sym (behind_enough 30 (state / 2) (omega arith))

  backward_first : backward_counts state % 2 ≡ first_met % 2
  unfolding behind
  backward_first = digit_first first_met second_met _

  backward_second : backward_counts state / 64 % 2 ≡ second_met % 2
  unfolding behind
  backward_second = digit_second first_met second_met _ (meets_below state first_mask h)

  backward_zero : register_weight (0 * 2 ^ 31 + state) ≡ zero_weight (backward_counts state)
  unfolding register_weight parity
  backward_zero = let none : 0 * 2 ^ 31 + state ≡ state = omega arith in rw (none, backward_first, backward_second)

  -- The masks' highest bits are 1.
  backward_one : register_weight (1 * 2 ^ 31 + state) ≡ (1 + backward_counts state) % 2 + (1 + backward_counts state / 64) % 2
  unfolding register_weight parity first_mask second_mask
  backward_one =
      let turned : 1 * 2 ^ 31 + state ≡ state + 2 ^ 31 = omega arith in
      rw (
        turned,
        meets_higher 31 state first_mask h,
        meets_higher 31 state second_mask h,
        lowest_added 1 (backward_counts state) first_met backward_first,
        lowest_added 1 (backward_counts state / 64) second_met backward_second,
      )

  backward_next : behind 31 (state / 2 + 1 * 2 ^ 30) ≡ behind 31 (state / 2) + backward_response
  backward_next = behind_higher 30 31 (state / 2) (omega arith) (omega arith)

backward_none : backward_counts 0 ≡ 0
unfolding behind ones first_mask second_mask
backward_none = refl

pub backward_running : Running backward backward_counts backward_response
backward_running =
    record {
      none_yet = backward_none;
      below = λ state bit h b. omega arith;
      weight_zero = backward_zero;
      one_weight = λ state h. backward_one state h ∙ both_other (backward_counts state) (backward_counts state / 64);
      zero_next =
          λ state h. let same : state / 2 + 0 * 2 ^ 30 ≡ state / 2 = omega arith in ap backward_counts same ∙ sym (backward_rest state h);
      one_next = λ state h. backward_next state h ∙ ap (λ (n : ℕ). n + backward_response) (sym (backward_rest state h));
    }
