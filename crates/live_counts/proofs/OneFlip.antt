-- The live counts at limit 2 around a word whose coded bits were received with one flipped: 135 where it is the first coded bit of the 49th
-- clocked bit, and less elsewhere. They depend on the flipped bit's index alone, so that the checker computes the tree of each index once.
use mathlib.Core.Path.{◌≡◌, refl, sym, ap, ◌∙◌}
use Prim.Native.Nat.{ℕ, ◌≤◌, ◌<◌}
use native.Mathlib.Omega.{arith}
use mathlib.Core.Bool.{Bool, true, cond}
use mathlib.Core.List.{List}
use lib.Dec.{eqb, leb}
use lib.ListN.{length, get_or}
use borrow.Author.Tests.{eq-eqb, ne_eqb, eqb-true, leb-true}
use Rattle.basics.proofs.Choice.{equal_or_not}
use Rattle.basics.proofs.Tables.{below_at}
use Rattle.convolution.specs.Code.{first_mask, second_mask, coded_bits}
use Rattle.convolution.proofs.CodeLaws.{length_coded_bits}
use Rattle.distance.specs.Prefixes.{differences, live_count}
use Rattle.distance.proofs.Bits.{AllBits}
use Rattle.distance.proofs.PrefixLaws.{bits_coded_bits}
use Rattle.distance.proofs.Recentred.{live_count_around}
use Rattle.trellis.proofs.Onward.{ahead_response, onward_response}
use Rattle.live_counts.proofs.CountedTree.{beyond, counted_tree, live_count_counted}
use Rattle.live_counts.proofs.OneBit.{one_at, length_one_at, bits_one_at, ApartAt, one_apart}

-- ---- Computed

-- The live count around the zero word with the bit at an index flipped: 135 for index 96, else at most 134.
unfoldable count_fits : ℕ → Bool
count_fits index =
    let live = counted_tree onward_response 81 50 0 (one_at 162 index) 2 in
    cond (eqb index 96) (eqb live 135) (leb live 134)

counts_computed : (index : ℕ) → index < 162 → count_fits index ≡ true
unfolding count_fits one_at counted_tree beyond ahead_response first_mask second_mask
counts_computed = below_at count_fits 162 refl

-- ---- For every word

module _ (word : ℕ) (received : List ℕ) (are_bits : AllBits received) (long : length received ≡ 162)
    (one : differences (coded_bits word) received ≡ 1) where
  flipped : ApartAt 162 (coded_bits word) received
  flipped = one_apart 162 (coded_bits word) received (bits_coded_bits word) are_bits (length_coded_bits word) long one

  abbrev index : ℕ
  index = flipped.index

  abbrev live : ℕ
  live = counted_tree onward_response 81 50 0 (one_at 162 index) 2

  live_tree : live_count received 2 ≡ live
  live_tree =
      live_count_around word 2 received are_bits long
      ∙ ap (λ (bits : List ℕ). live_count bits 2) flipped.sum
      ∙ live_count_counted (one_at 162 index) 2 (bits_one_at 162 index) (length_one_at 162 index)

  abbrev chosen : Bool → Bool
  chosen t = cond t (eqb live 135) (leb live 134)

  fits : chosen (eqb index 96) ≡ true
  unfolding count_fits
  fits = counts_computed index flipped.within

  pub one_flip_there : (get_or (coded_bits word) 96 0 ≡ get_or received 96 0 → ⊥) → live_count received 2 ≡ 135
  one_flip_there other =
      equal_or_not index 96
      (λ there. live_tree ∙ eqb-true live 135 (sym (ap chosen (eq-eqb index 96 there)) ∙ fits))
      (λ not_there. absurd (other (flipped.elsewhere 96 (λ e. not_there (sym e)))))

  pub one_flip_elsewhere : get_or (coded_bits word) 96 0 ≡ get_or received 96 0 → live_count received 2 ≤ 134
  one_flip_elsewhere same =
      equal_or_not index 96
      (λ there. absurd (flipped.apart (rw there same)))
      (λ not_there. omega (arith, live_tree, leb-true live 134 (sym (ap chosen (ne_eqb index 96 not_there)) ∙ fits)))
