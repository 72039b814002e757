-- The live counts of frames without a flipped data bit, with one, with more, and of any frame; and what repair answers on them.
use mathlib.Core.Path.{◌≡◌, refl, sym, ap, ◌∙◌}
use Prim.Native.Nat.{ℕ, ◌+◌, ◌≤◌}
use native.Mathlib.Omega.{arith}
use mathlib.Core.Bool.{true, false}
use mathlib.Core.List.{List}
use lib.ListN.{length}
use Rattle.std.specs.Prelude.{Ok}
use borrow.Author.Tests.{not-true, not-false, eqb-true, eqb-false}
use Rattle.basics.proofs.Choice.{by_test}
use Rattle.convolution.specs.Code.{coded_bits}
use Rattle.convolution.proofs.CodeLaws.{length_coded_bits}
use Rattle.interleaver.specs.Places.{place_of}
use Rattle.frame.specs.Symbols.{RightSymbols, received_bits}
use Rattle.frame.proofs.SymbolLaws.{length_received_bits}
use Rattle.distance.specs.Prefixes.{differences, live_count}
use Rattle.distance.proofs.Bits.{AllBits, bits_each, differences_zero}
use Rattle.distance.proofs.PrefixLaws.{disagreements_of_word}
use Rattle.live_counts.specs.CleanCounts.{clean_count}
use Rattle.live_counts.proofs.Clean.{counts_of_clean, flipped_most, any_most}
use Rattle.live_counts.proofs.OneFlip.{one_flip_there, one_flip_elsewhere}
use Rattle.repair.specs.Answer.{frame_repaired}
use Rattle.repair.specs.Demand.{Bounds}
use Rattle.repair.specs.Flips.{flipped_at, flips}
use Rattle.repair.specs.LiveCounts.{worst_index, OneFlipCount, CountsByFlips, CountsOfAny, CleanRepaired, OneFlipRepaired, NeverOverBudget}
use Rattle.repair.specs.declared.Nearest.{Nearest}
use Rattle.repair.proofs.AnswerLaws.{repaired_searched, over_of, demanded}
use Rattle.repair.proofs.CheckLaws.{right_searched}
use Rattle.repair.proofs.FlipLaws.{received_there, sent_there, flips_disagreements}
use Rattle.repair.proofs.FlipAnswers.{flips_repaired}
use Rattle.repair.proofs.FoundLaws.{bits_received}

-- The flips are the places in which the coded bits differ from what was received.
flips_differences : (word : ℕ) (frame : List ℕ) → flips word frame ≡ differences (coded_bits word) (received_bits frame)
flips_differences word frame = flips_disagreements word frame ∙ disagreements_of_word (received_bits frame) word

-- ---- No flip

clean_frame_count : (word : ℕ) (frame : List ℕ) (limit : ℕ) → flips word frame ≡ 0 → limit ≤ 10
    → live_count (received_bits frame) limit ≡ clean_count limit
clean_frame_count word frame limit none h =
    let size : length (coded_bits word) ≡ length (received_bits frame) = length_coded_bits word ∙ sym (length_received_bits frame) in
    let same : coded_bits word ≡ received_bits frame =
    differences_zero (coded_bits word) (received_bits frame) size (sym (flips_differences word frame) ∙ none) in
    ap (λ (bits : List ℕ). live_count bits limit) (sym same) ∙ counts_of_clean word limit h

-- ---- One flip

module _ (word : ℕ) (frame : List ℕ) (right : RightSymbols frame) (one : flips word frame ≡ 1) where
  are_bits : AllBits (received_bits frame)
  are_bits =
      let received = bits_received frame right in
      bits_each (received_bits frame) (λ i h. received.are_bits i (omega (arith, received.right_length)))

  differ_in_one : differences (coded_bits word) (received_bits frame) ≡ 1
  differ_in_one = sym (flips_differences word frame) ∙ one

  -- 135 are live where the coded bit of index 96 is flipped. That the index is 96 is a fact by itself, so that it is what fails where the
  -- definition has another one.
  count_there : (index : ℕ) → index ≡ 96 → flipped_at word frame (place_of index) ≡ true → live_count (received_bits frame) 2 ≡ 135
  count_there index e flipped =
      one_flip_there word (received_bits frame) are_bits (length_received_bits frame) differ_in_one
      (λ same.
      eqb-false _ _ (not-true _ flipped)
      (sym (received_there word frame index (omega arith)) ∙ rw e (sym same) ∙ sent_there word frame index (omega arith)))

  count_elsewhere : (index : ℕ) → index ≡ 96 → flipped_at word frame (place_of index) ≡ false → live_count (received_bits frame) 2 ≤ 134
  count_elsewhere index e as_sent =
      one_flip_elsewhere word (received_bits frame) are_bits (length_received_bits frame) differ_in_one
      (rw (← e)
      (sent_there word frame index (omega arith)
      ∙ sym (eqb-true _ _ (not-false _ as_sent))
      ∙ sym (received_there word frame index (omega arith))))

  one_flip_count : OneFlipCount word frame (live_count (received_bits frame) 2)
  one_flip_count =
      let there = count_there worst_index refl in
      let elsewhere = count_elsewhere worst_index refl in
      record {
        at_most = by_test (flipped_at word frame (place_of worst_index)) (λ e. omega (arith, there e)) (λ e. omega (arith, elsewhere e));
        reached = (
          λ most. by_test (flipped_at word frame (place_of worst_index)) (λ e. e) (λ e. absurd (omega (arith, elsewhere e))),
          there,
        );
      }

-- ---- More flips, and any frame

flips_count : (word : ℕ) (frame : List ℕ) (limit : ℕ) → limit + flips word frame ≤ 10
    → live_count (received_bits frame) limit ≤ clean_count (limit + flips word frame)
flips_count word frame limit h =
    let same = flips_disagreements word frame in
    rw same (flipped_most (received_bits frame) word limit (length_received_bits frame) (omega arith))

pub counts_of_any : CountsOfAny
counts_of_any frame limit h = any_most (received_bits frame) limit (length_received_bits frame) h

pub counts_by_flips : CountsByFlips
counts_by_flips frame right word h = (
  (λ none limit. clean_frame_count word frame limit none),
  (one_flip_count word frame right, flips_count word frame),
)

-- ---- What is answered

module _ (frame : List ℕ) (limit budget : ℕ) (right : RightSymbols frame) (bounds : Bounds limit budget) where
  -- An answer carries the live count.
  carried : (nearest : Nearest) → frame_repaired frame limit budget ≡ Ok nearest → nearest.live ≡ live_count (received_bits frame) limit
  carried nearest e = (((demanded frame limit budget right bounds).answered nearest).0 e).1.its_live_count

pub clean_repaired : (frame : List ℕ) (limit budget : ℕ) → CleanRepaired frame limit budget (frame_repaired frame limit budget)
clean_repaired frame limit budget to_10 bounds right word h none =
    let live = clean_frame_count word frame limit none to_10 in
    let back = flips_repaired frame limit budget right bounds word h (omega arith) in
    record {
      counted = λ nearest e. carried frame limit budget right bounds nearest e ∙ live;
      given_back = ((λ e. omega (arith, back.0 e, live)), λ enough. back.1 (omega (arith, live)));
    }

pub one_flip_repaired : (frame : List ℕ) (limit budget : ℕ) → OneFlipRepaired frame limit budget (frame_repaired frame limit budget)
one_flip_repaired frame limit budget two bounds right word h one =
    let within : Bounds 2 budget =
    record { limit_to_12 = omega arith; budget_from_1 = bounds.budget_from_1; budget_to_65536 = bounds.budget_to_65536 } in
    let count = one_flip_count word frame right one in
    let back = flips_repaired frame 2 budget right within word h (omega arith) in
    rw two
    (record {
      counted = λ nearest e. rw (carried frame 2 budget right within nearest e) count;
      given_back = back;
      always_given_back = λ enough. back.1 (omega (arith, count.at_most));
    })

-- 16 would need a larger live count.
pub never_over_budget : (frame : List ℕ) (limit budget : ℕ) → NeverOverBudget limit budget (frame_repaired frame limit budget)
never_over_budget frame limit budget to_4 enough e =
    let (right, bounds) = right_searched frame limit budget (rw e (omega arith)) in
    let over = over_of frame limit budget (sym (repaired_searched frame limit budget right bounds) ∙ e) in
    omega (arith, over, counts_of_any frame limit (omega arith))
