-- What is searched are bits, and the answer that a search gives is the one defined, whatever the search went through.
use mathlib.Core.Path.{◌≡◌, sym, ◌∙◌}
use Prim.Native.Nat.{ℕ, ◌-◌, ◌^◌, ◌≤◌, ◌<◌}
use native.Mathlib.Omega.{arith}
use mathlib.Core.List.{List}
use borrow.Author.Tests.{lt-ltb, le-ltb, le-leb, lt-leb}
use Rattle.std.specs.Prelude.{Ok, Err}
use Rattle.basics.proofs.Choice.{below_or_not}
use Rattle.refusal.specs.declared.Refusal.{Refusal}
use Rattle.interleaver.specs.Places.{place_of}
use Rattle.interleaver.proofs.PlaceLaws.{place_of_below}
use Rattle.frame.specs.Symbols.{RightSymbols, DataBits, received_bits, wrong_sync_in}
use Rattle.frame.proofs.SymbolLaws.{length_received_bits, get_d_received_bits}
use Rattle.distance.specs.Prefixes.{word_disagreements, live_count}
use Rattle.distance.specs.Nearest.{AtMostAll, OnlyNearest, IsMargin}
use Rattle.distance.proofs.NearestLaws.{margin_to}
use Rattle.repair.specs.Answer.{searched}
use Rattle.repair.specs.Demand.{IsNearest, Shared}
use Rattle.repair.specs.Search.{BestBelow, SearchFound, nearest_in, answer_of}
use Rattle.repair.specs.declared.best.Best.{Best}
use Rattle.repair.specs.declared.search.Found.{Found}
use Rattle.repair.proofs.AnswerLaws.{searched_over, of_word, of_none, of_shared}

-- The data bits of symbols of 0 to 3 are bits.
pub bits_received : (frame : List ℕ) → RightSymbols frame → DataBits (received_bits frame)
bits_received frame right =
    record {
      right_length = length_received_bits frame;
      are_bits =
          λ index h.
          omega (arith, get_d_received_bits frame index h, right.symbols_to_3 (place_of index) (place_of_below index h));
    }

-- ---- The cases of the answer

module _ (found : Found) (wrong limit budget : ℕ) where
  abbrev best : Best
  best = found.best

  pub answer_over : budget < found.live → answer_of found wrong limit budget ≡ Err Refusal.OverBudget
  unfolding answer_of
  answer_over over = rw (lt-ltb budget found.live over)

  module _ (within : found.live ≤ budget) where
    pub answer_none : limit < best.fewest → answer_of found wrong limit budget ≡ Err Refusal.NoneWithinLimit
    unfolding answer_of
    answer_none far = rw (le-ltb budget found.live within, lt-ltb limit best.fewest far)

    module _ (near : best.fewest ≤ limit) where
      pub answer_shared : best.next ≤ best.fewest → answer_of found wrong limit budget ≡ Err Refusal.SharedFewest
      unfolding answer_of
      answer_shared shared =
          rw (le-ltb budget found.live within, le-ltb limit best.fewest near, le-leb best.next best.fewest shared)

      pub answer_word : best.fewest < best.next → answer_of found wrong limit budget ≡ Ok (nearest_in found wrong)
      unfolding answer_of
      answer_word alone =
          rw (le-ltb budget found.live within, le-ltb limit best.fewest near, lt-leb best.next best.fewest alone)

-- ---- What the record of all words says of the nearest

module _ (received : List ℕ) (limit : ℕ) (best : Best) (b : BestBelow received limit (2 ^ 50) best) where
  at_most : (word : ℕ) → word < 2 ^ 50 → word_disagreements received word ≡ best.fewest → AtMostAll received word
  at_most word h e = (h, λ other k. omega (arith, b.fewest_least other k))

  best_only : best.fewest ≤ limit → best.fewest < best.next → OnlyNearest received best.word
  best_only near alone =
      let found = b.fewest_found near in
      (found.0, λ other h different. omega (arith, b.next_least other h different, found.1))

  best_margin : best.fewest ≤ limit → IsMargin received limit best.word (best.next - best.fewest)
  best_margin near =
      let its = (b.fewest_found near).1 in
      rw (← its)
      (margin_to received limit best.word best.next (omega (arith, b.in_order, its)) b.next_most b.next_least b.next_found)

  best_shared : best.fewest ≤ limit → best.next ≤ best.fewest → Shared received limit
  best_shared near shared =
      let one = b.fewest_found near in
      let another = b.next_found (omega arith) in
      let as_few : word_disagreements received another.0 ≡ best.fewest = omega (arith, another.1.1.1, b.in_order) in
      record {
        one = best.word;
        another = another.0;
        different = λ same. another.1.1.0 (sym same);
        one_fewest = at_most best.word one.0 one.1;
        another_fewest = at_most another.0 another.1.0 as_few;
        within_limit = omega (arith, one.1);
      }

-- ---- The answer

module _ (frame : List ℕ) (limit budget : ℕ) (found : Found) (wrong : ℕ) (s : SearchFound (received_bits frame) limit budget found)
    (e : wrong ≡ wrong_sync_in frame) where
  live_counted : found.live ≤ budget → live_count (received_bits frame) limit ≤ budget
  live_counted within = omega (arith, s.counted within)

  is_nearest : (within : found.live ≤ budget) → found.best.fewest ≤ limit → found.best.fewest < found.best.next
      → IsNearest frame limit (nearest_in found wrong)
  unfolding nearest_in
  is_nearest within near alone =
      let b = s.best_of_all within in
      record {
        only_nearest = best_only (received_bits frame) limit found.best b near alone;
        its_disagreements = sym (b.fewest_found near).1;
        within_limit = near;
        its_live_count = s.counted within;
        its_wrong_sync = e;
        its_margin = best_margin (received_bits frame) limit found.best b near;
      }

  pub found_answered : answer_of found wrong limit budget ≡ searched frame limit budget
  found_answered =
      below_or_not budget found.live
      (λ over. answer_over found wrong limit budget over ∙ sym (searched_over frame limit budget (s.when_over_budget over)))
      (λ within.
      let b = s.best_of_all within in
      below_or_not limit found.best.fewest
      (λ far.
      answer_none found wrong limit budget within far
      ∙ sym (of_none frame limit budget (live_counted within, λ word h. omega (arith, b.fewest_least word h))))
      (λ near.
      below_or_not found.best.fewest found.best.next
      (λ alone.
      answer_word found wrong limit budget within near alone
      ∙ sym (of_word frame limit budget _ (live_counted within, is_nearest within near alone)))
      (λ shared.
      answer_shared found wrong limit budget within near shared
      ∙ sym (of_shared frame limit budget (live_counted within, best_shared (received_bits frame) limit found.best b near shared)))))
