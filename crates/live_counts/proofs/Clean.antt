-- The live counts around a word whose own coded bits were received: those of the zero word, whose trees the checker computes. With flips there
-- are at most as many as at a limit that is greater by as many; whatever was received, at most as many as at twice the limit.
use mathlib.Core.Path.{◌≡◌, refl, sym, ap, ◌∙◌}
use Prim.Native.Nat.{ℕ, ◌+◌, ◌≤◌}
use native.Mathlib.Omega.{arith}
use mathlib.Core.List.{List}
use lib.ListN.{length, get_or}
use Rattle.basics.specs.Lists.{tabulate}
use Rattle.basics.proofs.ListLaws.{get_d_tabulate}
use Rattle.convolution.specs.Code.{first_mask, second_mask, coded_bits}
use Rattle.distance.specs.Prefixes.{differences, word_disagreements, live_count}
use Rattle.distance.proofs.Bits.{bits_zeros, differences_sym}
use Rattle.distance.proofs.PrefixLaws.{disagreements_of_word}
use Rattle.distance.proofs.Recentred.{zero_bits, live_count_clean, live_count_flipped, live_count_any}
use Rattle.trellis.proofs.Onward.{ahead_response, onward_response}
use Rattle.live_counts.specs.CleanCounts.{clean_counts, clean_count}
use Rattle.live_counts.proofs.CountedTree.{beyond, counted_tree, live_count_counted}

-- The live counts around the zero word at limits 0 to 10.
trees_computed : tabulate 11 (counted_tree onward_response 81 50 0 zero_bits) ≡ clean_counts
unfolding tabulate counted_tree beyond ahead_response first_mask second_mask
trees_computed = refl

zero_counts : (limit : ℕ) → limit ≤ 10 → live_count zero_bits limit ≡ clean_count limit
unfolding clean_count
zero_counts limit h =
    live_count_counted zero_bits limit (bits_zeros 162) refl
    ∙ sym (get_d_tabulate 11 (counted_tree onward_response 81 50 0 zero_bits) limit (omega arith))
    ∙ ap (λ (counts : List ℕ). get_or counts limit 0) trees_computed

-- "a clean frame has live count 81 at limits 0 and 1 and exactly 131 at limit 2", and so on.
pub counts_of_clean : (word limit : ℕ) → limit ≤ 10 → live_count (coded_bits word) limit ≡ clean_count limit
counts_of_clean word limit h = live_count_clean word limit ∙ zero_counts limit h

-- With flips, at most as many are live as without at a limit that is greater by as many.
pub flipped_most : (received : List ℕ) (word limit : ℕ) → length received ≡ 162 → limit + word_disagreements received word ≤ 10
    → live_count received limit ≤ clean_count (limit + word_disagreements received word)
flipped_most received word limit long h =
    let flips : word_disagreements received word ≡ differences received (coded_bits word) =
    disagreements_of_word received word ∙ differences_sym (coded_bits word) received in
    rw flips
    (rw (counts_of_clean word (limit + differences received (coded_bits word)) (omega arith)) at (live_count_flipped word received long limit))

-- Whatever was received, at most as many as without flips at twice the limit.
pub any_most : (received : List ℕ) (limit : ℕ) → length received ≡ 162 → limit ≤ 5 → live_count received limit ≤ clean_count (limit + limit)
any_most received limit long h = rw (← zero_counts (limit + limit) (omega arith)) (live_count_any received long limit)
