-- The laws of the counts that are kept forwards: they give the weight of each step, a digit dropped is the next step, and a bit 1 adds one
-- fixed number.
use mathlib.Core.Path.{◌≡◌, refl, sym, ap, ◌∙◌}
use Prim.Native.Nat.{ℕ, zero, suc, ◌+◌, ◌*◌, ◌/◌, ◌%◌, ◌^◌, ◌<◌, min}
use native.Mathlib.Nat.{pow-suc}
use native.Mathlib.Omega.{arith}
use lib.Bits.{bit_and, and_zero_r, and_le_r, and_mod}
use lib.Count.{ones}
use Rattle.convolution.specs.Code.{first_mask, second_mask, parity}
use Rattle.convolution.proofs.CodeLaws.{first_odd, second_odd, ones_and}
use Rattle.trellis.proofs.States.{register_weight, onward}
use Rattle.trellis.proofs.Running.{meeting, Running, digit_dropped, digit_first, digit_second, lowest_added, none_more, both_other, meets_below}
use Rattle.trellis.proofs.Onward.{ahead, ahead_response, older, onward_counts, onward_response}

-- A new lowest bit meets the mask's lowest, and the others its next.
meets_longer : (mask state bit : ℕ) → bit < 2 → ones (bit_and (state * 2 + bit) mask) ≡ min bit (mask % 2) + ones (bit_and state (mask / 2))
meets_longer mask state bit h =
    let half : (state * 2 + bit) / 2 ≡ state = omega arith in
    let lowest : (state * 2 + bit) % 2 ≡ bit = omega arith in
    rw (ones_and (state * 2 + bit) mask, half, lowest)

ahead_zero : (k first second state : ℕ) → ahead k first second (state * 2 + 0) ≡ ahead k (first / 2) (second / 2) state
unfolding ahead
ahead_zero zero first second state = refl
ahead_zero (suc k) first second state =
    omega (
      arith,
      meets_longer first state 0 (omega arith),
      meets_longer second state 0 (omega arith),
      ahead_zero k (first / 2) (second / 2) state,
    )

ahead_one : (k first second state : ℕ) → ahead k first second (state * 2 + 1) ≡ ahead k (first / 2) (second / 2) state + ahead_response k first second
unfolding ahead ahead_response
ahead_one zero first second state = refl
ahead_one (suc k) first second state =
    omega (
      arith,
      meets_longer first state 1 (omega arith),
      meets_longer second state 1 (omega arith),
      ahead_one k (first / 2) (second / 2) state,
    )

-- The bits above a mask don't meet it.
and_low : (number mask : ℕ) → mask < 2 ^ 31 → bit_and (number % 2 ^ 31) mask ≡ bit_and number mask
and_low number mask h =
    let whole : mask % 2 ^ 31 ≡ mask = omega arith in
    let small : bit_and number mask % 2 ^ 31 ≡ bit_and number mask = omega (arith, and_le_r number mask) in
    (rw whole at (sym (and_mod number mask 31))) ∙ small

ahead_low : (k first second number : ℕ) → first < 2 ^ 31 → second < 2 ^ 31 → ahead k first second (number % 2 ^ 31) ≡ ahead k first second number
unfolding ahead
ahead_low zero first second number h l = refl
ahead_low (suc k) first second number h l =
    rw (and_low number first h, and_low number second l, ahead_low k (first / 2) (second / 2) number (omega arith) (omega arith))

-- After the masks' bits the digits are 0.
ahead_enough : (k first second state : ℕ) → first < 2 ^ k → second < 2 ^ k → ahead (suc k) first second state ≡ ahead k first second state
unfolding ahead ones
ahead_enough zero first second state h l =
    let none : first ≡ 0 = omega arith in
    let neither : second ≡ 0 = omega arith in
    rw (none, neither, and_zero_r state)
ahead_enough (suc k) first second state h l =
    ap (λ (rest : ℕ). meeting first second state + 4_096 * rest)
    (ahead_enough k (first / 2) (second / 2) state (omega (arith, pow-suc 2 k)) (omega (arith, pow-suc 2 k)))

older_first : older first_mask < 2 ^ 31
unfolding first_mask
older_first = omega arith

older_second : older second_mask < 2 ^ 31
unfolding second_mask
older_second = omega arith

-- The state's places in the masks are the counts' first digit, and the rest is that of the next step.
module _ (state : ℕ) (h : state < 2 ^ 31) where
  abbrev first : ℕ
  first = ones (bit_and state (older first_mask))

  abbrev second : ℕ
  second = ones (bit_and state (older second_mask))

  onward_dropped : onward_counts state / 4_096 ≡ ahead 30 (older first_mask / 2) (older second_mask / 2) state
  unfolding ahead
  onward_dropped = digit_dropped first second _ (meets_below state (older first_mask) h) (meets_below state (older second_mask) h)

  onward_rest : onward_counts state / 4_096 ≡ ahead 31 (older first_mask / 2) (older second_mask / 2) state
  onward_rest =
      onward_dropped
      ∙ sym (ahead_enough 30 (older first_mask / 2) (older second_mask / 2) state (omega (arith, older_first)) (omega (arith, older_second)))

  onward_first : onward_counts state % 2 ≡ first % 2
  unfolding ahead
  onward_first = digit_first first second _

  onward_second : onward_counts state / 64 % 2 ≡ second % 2
  unfolding ahead
  onward_second = digit_second first second _ (meets_below state (older first_mask) h)

  -- The coded bits of a further bit: the new bit meets the masks' lowest, which are 1.
  pub onward_first_coded : (bit : ℕ) → bit < 2 → parity first_mask (state * 2 + bit) ≡ (bit + onward_counts state) % 2
  unfolding parity
  onward_first_coded bit b =
      let newest : min bit 1 ≡ bit = omega arith in
      rw (meets_longer first_mask state bit b, first_odd, newest) (sym (lowest_added bit (onward_counts state) first onward_first))

  pub onward_second_coded : (bit : ℕ) → bit < 2 → parity second_mask (state * 2 + bit) ≡ (bit + onward_counts state / 64) % 2
  unfolding parity
  onward_second_coded bit b =
      let newest : min bit 1 ≡ bit = omega arith in
      rw (meets_longer second_mask state bit b, second_odd, newest) (sym (lowest_added bit (onward_counts state / 64) second onward_second))

  onward_weight : (bit : ℕ) → bit < 2 → register_weight (state * 2 + bit) ≡ (bit + onward_counts state) % 2 + (bit + onward_counts state / 64) % 2
  unfolding register_weight
  onward_weight bit b = rw (onward_first_coded bit b, onward_second_coded bit b)

onward_none : onward_counts 0 ≡ 0
unfolding ahead ones first_mask second_mask
onward_none = refl

pub onward_running : Running onward onward_counts onward_response
onward_running =
    record {
      none_yet = onward_none;
      below = λ state bit h b. omega arith;
      weight_zero = λ state h. onward_weight state h 0 (omega arith) ∙ none_more (onward_counts state) (onward_counts state / 64);
      one_weight = λ state h. onward_weight state h 1 (omega arith) ∙ both_other (onward_counts state) (onward_counts state / 64);
      zero_next =
          λ state h. ahead_low 31 _ _ (state * 2 + 0) older_first older_second ∙ ahead_zero 31 _ _ state ∙ sym (onward_rest state h);
      one_next =
          λ state h.
          ahead_low 31 _ _ (state * 2 + 1) older_first older_second
          ∙ ahead_one 31 _ _ state
          ∙ ap (λ (n : ℕ). n + onward_response) (sym (onward_rest state h));
    }
