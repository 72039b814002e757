-- The encoder's states: the last 31 bits that were clocked, all that later coded bits depend on. Forwards a bit is clocked and the oldest
-- dropped; backwards the oldest is taken up again. The weight of a path is how many of its coded bits are 1.
use mathlib.Core.Path.{◌≡◌, refl, sym, ap, ◌∙◌}
use Prim.Native.Nat.{ℕ, zero, suc, ◌+◌, ◌*◌, ◌/◌, ◌%◌, ◌^◌, ◌≤◌, ◌<◌}
use native.Mathlib.Omega.{arith}
use mathlib.Core.List.{List, [], ◌∷◌, ◌++◌}
use lib.ListN.{length, replicate, length-append}
use Rattle.basics.proofs.Choice.{equal_or_not}
use Rattle.convolution.specs.Code.{clocked, first_mask, second_mask, parity, coded_from}
use Rattle.convolution.proofs.CodeLaws.{parity_below}
use Rattle.distance.specs.Prefixes.{unlike, differences}
use Rattle.distance.proofs.Bits.{AllBits, bits_append, bits_zeros, alike, not_alike}
use Rattle.distance.proofs.PrefixLaws.{register_after}
use Rattle.distance.proofs.StepLaws.{register_zeros}
use Rattle.trellis.proofs.Steps.{Steps, end_of, weight_of, end_append, weight_append}

-- How many of the two coded bits of a register are 1.
unfoldable pub register_weight : ℕ → ℕ
register_weight register = parity first_mask register + parity second_mask register

-- ---- Forwards

abbrev pub onward : Steps
onward = record { to = λ state bit. (state * 2 + bit) % 2 ^ 31; weight = λ state bit. register_weight (state * 2 + bit) }

-- What differs from 0 is 1.
unlike_zero : (x : ℕ) → x < 2 → unlike x 0 ≡ x
unlike_zero x h =
    equal_or_not x 0
    (λ none. alike x 0 none ∙ sym none)
    (λ other. not_alike x 0 other ∙ omega arith)

pub clocked_state : (register bit : ℕ) → bit < 2 → clocked register bit ≡ register % 2 ^ 31 * 2 + bit
unfolding clocked
clocked_state register bit h = omega arith

pub next_state : (register bit : ℕ) → bit < 2 → clocked register bit % 2 ^ 31 ≡ (register % 2 ^ 31 * 2 + bit) % 2 ^ 31
next_state register bit h = ap (λ (n : ℕ). n % 2 ^ 31) (clocked_state register bit h)

-- A path's weight is the number of places in which its coded bits differ from zeros.
pub weight_coded : (n register : ℕ) (bits : List ℕ) → AllBits bits → 2 * length bits ≤ n
    → differences (coded_from register register bits) (replicate n 0) ≡ weight_of onward (register % 2 ^ 31) bits
unfolding AllBits differences coded_from weight_of register_weight
weight_coded n register [] are_bits h = refl
weight_coded zero register (bit ∷ bits) are_bits h = absurd (omega arith)
weight_coded (suc zero) register (bit ∷ bits) are_bits h = absurd (omega arith)
weight_coded (suc (suc n)) register (bit ∷ bits) are_bits h =
    let next = clocked register bit in
    let first = parity first_mask next in
    let second = parity second_mask next in
    let later : differences (coded_from next next bits) (replicate n 0) ≡ weight_of onward ((register % 2 ^ 31 * 2 + bit) % 2 ^ 31) bits =
    weight_coded n next bits are_bits.1 (omega arith)
    ∙ ap (λ (s : ℕ). weight_of onward s bits) (next_state register bit are_bits.0) in
    let here : register_weight next ≡ register_weight (register % 2 ^ 31 * 2 + bit) = ap register_weight (clocked_state register bit are_bits.0) in
    omega (
      arith,
      unlike_zero first (parity_below first_mask next),
      unlike_zero second (parity_below second_mask next),
      later,
      here,
    )

-- The state is what the register holds without its oldest bit.
end_register : (register : ℕ) (bits : List ℕ) → AllBits bits → end_of onward (register % 2 ^ 31) bits ≡ register_after register bits % 2 ^ 31
unfolding AllBits end_of register_after
end_register register [] are_bits = refl
end_register register (bit ∷ bits) are_bits =
    ap (λ (s : ℕ). end_of onward s bits) (sym (next_state register bit are_bits.0)) ∙ end_register (clocked register bit) bits are_bits.1

-- 31 zeros lead to the zero state.
pub end_zero : (state : ℕ) → state < 2 ^ 31 → end_of onward state (replicate 31 0) ≡ 0
end_zero state h =
    let same : state % 2 ^ 31 ≡ state = omega arith in
    let small : state % 2 ^ 32 ≡ state = omega arith in
    let shifted : register_after state (replicate 31 0) ≡ state * 2 ^ 31 % 2 ^ 32 = rw small at (register_zeros state 31) in
    (rw same at (end_register state (replicate 31 0) (bits_zeros 31))) ∙ rw shifted (omega arith)

pub end_below : (state : ℕ) (bits : List ℕ) → state < 2 ^ 31 → end_of onward state bits < 2 ^ 31
unfolding end_of
end_below state [] h = h
end_below state (bit ∷ bits) h = end_below ((state * 2 + bit) % 2 ^ 31) bits (omega arith)

-- ---- Backwards

abbrev pub backward : Steps
backward =
    record { to = λ state oldest. state / 2 + oldest * 2 ^ 30; weight = λ state oldest. register_weight (oldest * 2 ^ 31 + state) }

-- A path the other way round.
pub record Turned (state : ℕ) (bits : List ℕ) : Type 0 where
  pub back : List ℕ
  pub are_bits : AllBits back
  pub as_long : length back ≡ length bits
  pub leads_back : end_of backward (end_of onward state bits) back ≡ state
  pub weighs_same : weight_of backward (end_of onward state bits) back ≡ weight_of onward state bits

-- One bit more, first forwards and last backwards.
module _ (state bit : ℕ) (bits : List ℕ) (small : state < 2 ^ 31) (b : bit < 2) where
  abbrev oldest : ℕ
  oldest = state / 2 ^ 30

  turned_longer : Turned (onward.to state bit) bits → Turned state (bit ∷ bits)
  unfolding AllBits end_of weight_of
  turned_longer later =
      let last = end_of onward (onward.to state bit) bits in
      let step_back : onward.to state bit / 2 + oldest * 2 ^ 30 ≡ state = omega arith in
      let same_register : oldest * 2 ^ 31 + onward.to state bit ≡ state * 2 + bit = omega arith in
      record {
        back = later.back ++ oldest ∷ [];
        are_bits = bits_append later.back (oldest ∷ []) later.are_bits (omega arith, tt);
        as_long = omega (arith, length-append later.back (oldest ∷ []), later.as_long);
        leads_back = end_append backward last later.back (oldest ∷ []) ∙ rw later.leads_back step_back;
        weighs_same =
            weight_append backward last later.back (oldest ∷ [])
            ∙ rw (later.leads_back, same_register) (omega (arith, later.weighs_same));
      }

pub turned : (state : ℕ) (bits : List ℕ) → state < 2 ^ 31 → AllBits bits → Turned state bits
unfolding AllBits end_of weight_of
turned state [] small are_bits = record { back = []; are_bits = tt; as_long = refl; leads_back = refl; weighs_same = refl }
turned state (bit ∷ bits) small are_bits =
    turned_longer state bit bits small are_bits.0 (turned ((state * 2 + bit) % 2 ^ 31) bits (omega arith) are_bits.1)
