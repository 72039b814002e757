-- Repair's answer is what demand 3 asks for.
use mathlib.Core.Path.{◌≡◌, refl, ap, ◌∙◌}
use Prim.Native.Nat.{ℕ, ◌≤◌, ◌<◌}
use native.Mathlib.Omega.{arith}
use mathlib.Core.List.{List}
use lib.ListN.{length}
use borrow.Author.Tests.{eq-eqb, lt-ltb, le-ltb}
use Rattle.std.specs.Prelude.{Result, Ok, Err}
use Rattle.basics.proofs.Choice.{below_or_not}
use Rattle.refusal.specs.declared.Refusal.{Refusal}
use Rattle.refusal.specs.Refusals.{refusal_number}
use Rattle.frame.specs.Symbols.{RightSymbols, received_bits}
use Rattle.frame.proofs.SymbolLaws.{none_large}
use Rattle.distance.specs.Prefixes.{live_count}
use Rattle.distance.specs.Nearest.{fewest, sharing, nearest_word}
use Rattle.distance.proofs.NearestLaws.{fewest_below, fewest_reached, fewest_is, fewest_only, sharing_only, nearest_only, only_nearest, sharing_two, two_sharing, margin_is, is_margin}
use Rattle.repair.specs.Answer.{nearest_with, nearest_of, nearest_within, searched, frame_repaired}
use Rattle.repair.specs.Demand.{Bounds, IsNearest, NoneWithin, Shared, AsDemanded}
use Rattle.repair.specs.declared.Nearest.{Nearest}
use Rattle.repair.proofs.BoundLaws.{no_bad_bound}

-- An answer that only a search gives: a word, or a refusal by 16 or more.
abbrev pub OfSearch : Result Nearest Refusal → Type 0
OfSearch (Ok n) = Unit
OfSearch (Err f) = 16 ≤ refusal_number f

module _ (frame : List ℕ) (limit budget : ℕ) where
  abbrev received : List ℕ
  received = received_bits frame

  abbrev live : ℕ
  live = live_count received limit

  -- ---- Where the symbols, the limit and the budget are as they should be

  pub repaired_searched : RightSymbols frame → Bounds limit budget → frame_repaired frame limit budget ≡ searched frame limit budget
  unfolding frame_repaired
  repaired_searched right bounds = rw (eq-eqb (length frame) 162 right.right_length, no_bad_bound limit budget bounds, none_large frame right)

  -- ---- One law for each case

  module _ (within : live ≤ budget) where
    module _ (near : fewest received ≤ limit) where
      searched_word : sharing received ≤ 1 → searched frame limit budget ≡ Ok (nearest_of frame limit)
      unfolding searched nearest_within
      searched_word one = rw (le-ltb budget live within, le-ltb limit (fewest received) near, le-ltb 1 (sharing received) one)

      searched_shared : 1 < sharing received → searched frame limit budget ≡ Err Refusal.SharedFewest
      unfolding searched nearest_within
      searched_shared two = rw (le-ltb budget live within, le-ltb limit (fewest received) near, lt-ltb 1 (sharing received) two)

    searched_none : limit < fewest received → searched frame limit budget ≡ Err Refusal.NoneWithinLimit
    unfolding searched nearest_within
    searched_none far = rw (le-ltb budget live within, lt-ltb limit (fewest received) far)

  pub searched_over : budget < live → searched frame limit budget ≡ Err Refusal.OverBudget
  unfolding searched
  searched_over over = rw (lt-ltb budget live over)

  -- ---- Back from the answer to its case

  -- What holds of the answer in each case holds of it.
  by_case : (P : Result Nearest Refusal → Type 0)
      → (budget < live → P (Err Refusal.OverBudget))
      → (live ≤ budget → limit < fewest received → P (Err Refusal.NoneWithinLimit))
      → (live ≤ budget → fewest received ≤ limit → 1 < sharing received → P (Err Refusal.SharedFewest))
      → (live ≤ budget → fewest received ≤ limit → sharing received ≤ 1 → P (Ok (nearest_of frame limit)))
      → P (searched frame limit budget)
  by_case P over none shared word =
      below_or_not budget live
      (λ h. rw (searched_over h) (over h))
      (λ within.
      below_or_not limit (fewest received)
      (λ far. rw (searched_none within far) (none within far))
      (λ near.
      below_or_not 1 (sharing received)
      (λ two. rw (searched_shared within near two) (shared within near two))
      (λ one. rw (searched_word within near one) (word within near one))))

  pub of_search : OfSearch (searched frame limit budget)
  of_search = by_case OfSearch (λ over. omega arith) (λ within far. omega arith) (λ within near two. omega arith) (λ within near one. tt)

  -- ---- Out of budget

  pub over_of : searched frame limit budget ≡ Err Refusal.OverBudget → budget < live
  over_of =
      by_case (λ a. a ≡ Err Refusal.OverBudget → budget < live)
      (λ over e. over)
      (λ within far e. absurd cc)
      (λ within near two e. absurd cc)
      (λ within near one e. absurd cc)

  -- ---- The nearest word

  nearest_of_is : fewest received ≤ limit → sharing received ≤ 1 → IsNearest frame limit (nearest_of frame limit)
  unfolding nearest_of nearest_with
  nearest_of_is near one =
      let only = only_nearest received one in
      let few = fewest_only received (nearest_word received) only in
      record {
        only_nearest = only;
        its_disagreements = few;
        within_limit = near;
        its_live_count = refl;
        its_wrong_sync = refl;
        its_margin = margin_is received limit (nearest_word received) only (omega arith);
      }

  is_nearest_of : (n : Nearest) → IsNearest frame limit n → nearest_of frame limit ≡ n
  unfolding nearest_of nearest_with
  is_nearest_of n is =
      let only = is.only_nearest in
      let few = fewest_only received n.word only in
      let close = is_margin received limit n.word only n.margin is.its_margin in
      rw (nearest_only received n.word only, few, close, ← is.its_disagreements, ← is.its_live_count, ← is.its_wrong_sync)

  word_of : (n : Nearest) → searched frame limit budget ≡ Ok n → (live ≤ budget) × IsNearest frame limit n
  word_of n =
      by_case (λ a. a ≡ Ok n → (live ≤ budget) × IsNearest frame limit n)
      (λ over e. absurd cc)
      (λ within far e. absurd cc)
      (λ within near two e. absurd cc)
      (λ within near one e.
      let same : nearest_of frame limit ≡ n = cc in
      (within, rw same at (nearest_of_is near one)))

  pub of_word : (n : Nearest) → (live ≤ budget) × IsNearest frame limit n → searched frame limit budget ≡ Ok n
  of_word n given =
      let is = given.1 in
      let few = fewest_only received n.word is.only_nearest in
      let near : fewest received ≤ limit = omega (arith, is.its_disagreements, is.within_limit) in
      let one : sharing received ≤ 1 = omega (arith, sharing_only received n.word is.only_nearest) in
      searched_word given.0 near one ∙ ap Ok (is_nearest_of n is)

  -- ---- No word within the limit

  none_of : searched frame limit budget ≡ Err Refusal.NoneWithinLimit → (live ≤ budget) × NoneWithin received limit
  none_of =
      by_case (λ a. a ≡ Err Refusal.NoneWithinLimit → (live ≤ budget) × NoneWithin received limit)
      (λ over e. absurd cc)
      (λ within far e. (within, λ word h. omega (arith, fewest_below received word h)))
      (λ within near two e. absurd cc)
      (λ within near one e. absurd cc)

  pub of_none : (live ≤ budget) × NoneWithin received limit → searched frame limit budget ≡ Err Refusal.NoneWithinLimit
  of_none given =
      let found = fewest_reached received in
      searched_none given.0 (omega (arith, given.1 found.0 found.1.0, found.1.1))

  -- ---- Words that share the fewest disagreements

  pub shared_of : searched frame limit budget ≡ Err Refusal.SharedFewest → (live ≤ budget) × Shared received limit
  shared_of =
      by_case (λ a. a ≡ Err Refusal.SharedFewest → (live ≤ budget) × Shared received limit)
      (λ over e. absurd cc)
      (λ within far e. absurd cc)
      (λ within near two e. (within, sharing_words near two))
      (λ within near one e. absurd cc)
    where
      sharing_words : fewest received ≤ limit → 1 < sharing received → Shared received limit
      sharing_words near two =
          let words = two_sharing received two in
          record {
            one = words.0;
            another = words.1.0;
            different = words.1.1.0;
            one_fewest = words.1.1.1.0;
            another_fewest = words.1.1.1.1;
            within_limit = omega (arith, fewest_is received words.0 words.1.1.1.0);
          }

  pub of_shared : (live ≤ budget) × Shared received limit → searched frame limit budget ≡ Err Refusal.SharedFewest
  of_shared given =
      let words = given.1 in
      searched_shared given.0 (omega (arith, fewest_is received words.one words.one_fewest, words.within_limit))
      (sharing_two received words.one words.another words.different words.one_fewest words.another_fewest)

  -- ---- The demand

  pub demanded : AsDemanded frame limit budget (frame_repaired frame limit budget)
  demanded right bounds =
      rw (repaired_searched right bounds)
      (record {
        out_of_budget = (over_of, searched_over);
        answered = λ n. (word_of n, of_word n);
        none_within = (none_of, of_none);
        shared = (shared_of, of_shared);
      })
