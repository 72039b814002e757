-- A loop that clocks the bits of a word one at a time: the two coded bits of each step, by the register after its bit.
use mathlib.Core.Path.{◌≡◌, sym, ap, ◌∙◌}
use Prim.Native.Nat.{ℕ, suc, ◌+◌, ◌*◌, ◌<◌}
use native.Mathlib.Numerals.{add-one}
use native.Mathlib.Omega.{arith}
use mathlib.Core.List.{List, ◌∷◌}
use lib.ListN.{get_or, drop}
use lib.Seq.{drop-cons, drop-drop, get_or-drop}
use Rattle.basics.proofs.ListLaws.{head_at}
use Rattle.convolution.specs.Code.{clocked_bits, clocked, first_mask, second_mask, parity, coded_bits}
use Rattle.convolution.proofs.CodeLaws.{length_clocked_bits, coded_with, both_registers}

-- Before a turn: the coded bits from here on are those of the register and the bits from here on.
pub record Coding (word register step : ℕ) : Type 0 where
  pub rest : drop (2 * step) (coded_bits word) ≡ coded_with register (drop step (clocked_bits word))

pub coding_starts : (word : ℕ) → Coding word 0 0
unfolding coded_bits
coding_starts word = record { rest = both_registers 0 (clocked_bits word) }

module _ (word register step : ℕ) (before : step < 81) (now : Coding word register step) (next : ℕ)
    (e : next ≡ clocked register (get_or (clocked_bits word) step 0)) where
  -- The two coded bits of this step, and those after it.
  split : drop (2 * step) (coded_bits word) ≡ parity first_mask next ∷ parity second_mask next ∷ coded_with next (drop (suc step) (clocked_bits word))
  unfolding coded_with
  split = now.rest ∙ rw (drop-cons (clocked_bits word) step 0 (omega (arith, length_clocked_bits word)), e)

  pub coding_first : parity first_mask next ≡ get_or (coded_bits word) (2 * step) 0
  coding_first = sym (ap (λ (l : List ℕ). get_or l 0 0) split) ∙ head_at (2 * step) (coded_bits word)

  pub coding_second : parity second_mask next ≡ get_or (coded_bits word) (2 * step + 1) 0
  coding_second = sym (ap (λ (l : List ℕ). get_or l 1 0) split) ∙ get_or-drop (2 * step) (coded_bits word) 1 0

  pub coding_turn : Coding word next (step + 1)
  coding_turn =
      let twice : 2 * (step + 1) ≡ 2 * step + 2 = omega arith in
      record { rest = rw (twice, ← drop-drop 2 (2 * step) (coded_bits word), split, add-one) }
