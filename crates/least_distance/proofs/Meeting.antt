-- No path that leaves the zero state and returns to it weighs 27 or less. It would pass a step from a state to which the zero state's first 1
-- leads within weight 13 to one that leads to the zero state within weight 13. The checker computes both kinds of states, and that no step
-- goes from one to the other.
use mathlib.Core.Path.{◌≡◌, refl, sym, ◌∙◌}
use mathlib.Core.Logic.{◌⊎◌, inl, inr}
use Prim.Native.Nat.{ℕ, ◌+◌, ◌*◌, ◌/◌, ◌%◌, ◌^◌, ◌≤◌, ◌<◌}
use native.Mathlib.Omega.{arith}
use mathlib.Core.Bool.{true}
use mathlib.Core.List.{List, [], ◌∷◌, ◌++◌}
use lib.ListN.{length, length-append}
use Rattle.convolution.specs.Code.{first_mask, second_mask}
use Rattle.distance.proofs.Bits.{AllBits, bits_parts}
use Rattle.trellis.proofs.Steps.{end_of, weight_of, end_append, weight_append, Cut, within_or_cut, FirstOne}
use Rattle.trellis.proofs.States.{onward, backward, turned}
use Rattle.trellis.proofs.Running.{one_weighs}
use Rattle.trellis.proofs.Onward.{ahead_response, onward_counts, onward_response}
use Rattle.trellis.proofs.OnwardLaws.{onward_running}
use Rattle.trellis.proofs.Backward.{behind_response, backward_counts, backward_response, backward_running}
use Rattle.trellis.proofs.Reached.{if_left, reached, reached_keeps, one_reached, zero_reached}
use Rattle.trellis.proofs.Common.{In, halved, parted, nothing_common, never_common}

-- ---- Computed

-- A step goes from a state to another where the newest 30 bits of the one are the oldest 30 of the other.
abbrev newest : ℕ → ℕ
newest state = state % 2 ^ 30

abbrev oldest : ℕ → ℕ
oldest state = state / 2

-- The newest bits of the states to which a first 1, which weighs 2, leads within weight 13.
abbrev departed : List ℕ
departed = reached onward.to newest onward_response 81 11 (onward.to 0 1) onward_response []

-- The oldest bits of the states that lead to the zero state within weight 13, and those of the zero state itself.
abbrev arriving : List ℕ
arriving = reached backward.to oldest backward_response 81 11 (backward.to 0 1) backward_response (0 ∷ [])

none_met : nothing_common 30 departed arriving ≡ true
unfolding ahead_response behind_response first_mask second_mask if_left reached halved parted nothing_common
none_met = refl

never_met : (x : ℕ) → In x departed → In x arriving → ⊥
never_met x = never_common 30 x departed arriving none_met

-- ---- Paths

departs : (bits : List ℕ) → AllBits bits → length bits ≤ 81 → weight_of onward 1 bits ≤ 11 → In (newest (end_of onward 1 bits)) departed
departs bits are_bits short light = one_reached onward onward_counts onward_response onward_running newest 81 11 bits [] are_bits short light

arrives : (state : ℕ) (bits : List ℕ) → state < 2 ^ 31 → AllBits bits → length bits ≤ 81 → end_of onward state bits ≡ 0
    → weight_of onward state bits ≤ 13 → In (oldest state) arriving
arrives state bits small are_bits short returns light =
    let back = turned state bits small are_bits in
    let leads : end_of backward 0 back.back ≡ state = rw returns at back.leads_back in
    let weighs : weight_of backward 0 back.back ≡ weight_of onward state bits = rw returns at back.weighs_same in
    rw leads at
    (zero_reached backward backward_counts backward_response backward_running oldest refl 81 11 back.back [] back.are_bits
    (omega (arith, back.as_long)) (omega arith))

-- A path from a first 1 to the zero state.
module _ (bits : List ℕ) (are_bits : AllBits bits) (short : length bits ≤ 81) (returns : end_of onward 1 bits ≡ 0)
    (light : weight_of onward 1 bits ≤ 25) where
  -- It isn't all within weight 13: it would end in the zero state, to which the first 1 leads at no such weight.
  not_within : weight_of onward 1 bits ≤ 11 → ⊥
  unfolding In
  not_within within =
      never_met 0 (rw returns at (departs bits are_bits short within))
      (reached_keeps backward backward_counts backward_response backward_running oldest 0 81 11 (backward.to 0 1) backward_response (0 ∷ [])
      (inr (inl refl)))

  -- And it isn't cut where it gets heavier, either.
  not_cut : Cut onward 1 11 bits → ⊥
  unfolding AllBits end_of weight_of
  not_cut cut =
      let state = end_of onward 1 cut.before in
      let next = (state * 2 + cut.bit) % 2 ^ 31 in
      let rest = cut.bit ∷ cut.after in
      let (before-bits, rest-bits) = bits_parts cut.before rest (rw cut.joined at are_bits) in
      let long : length bits ≡ length cut.before + length rest = rw cut.joined (length-append cut.before rest) in
      let ends : end_of onward next cut.after ≡ 0 = sym (end_append onward 1 cut.before rest) ∙ (rw cut.joined at returns) in
      let whole : weight_of onward 1 (cut.before ++ rest) ≤ 25 = rw cut.joined at light in
      let follows : oldest next ≡ newest state = omega (arith, rest-bits.0) in
      never_met (newest state)
      (departs cut.before before-bits (omega arith) cut.within)
      (rw follows at
      (arrives next cut.after (omega arith) rest-bits.1 (omega arith) ends
      (omega (arith, whole, weight_append onward 1 cut.before rest, cut.beyond))))

  none_returns : ⊥
  none_returns = either (within_or_cut onward 1 11 bits)
    where
      either : (weight_of onward 1 bits ≤ 11) ⊎ Cut onward 1 11 bits → ⊥
      either (inl within) = not_within within
      either (inr cut) = not_cut cut

-- After zeros, too.
pub never_light : (bits : List ℕ) → FirstOne onward bits → length bits ≤ 81 → end_of onward 0 bits ≡ 0 → weight_of onward 0 bits ≤ 27 → ⊥
never_light bits one short returns light =
    none_returns one.after one.are_bits (omega (arith, one.shorter)) (sym one.ends_alike ∙ returns)
    (omega (arith, one.weighs, one_weighs onward_running))
