-- How long a repair may take: the live counts of frames without a flipped data bit and with one, "for every word" (02, L8), with more, and of
-- any frame; and what is answered on them.
use Rattle.std.specs.Prelude.{◌≡◌, ◌↔◌, ℕ, ◌+◌, ◌-◌, ◌*◌, ◌^◌, ◌≤◌, ◌<◌, true, List, Result, Ok, Err}
use Rattle.refusal.specs.declared.Refusal.{Refusal}
use Rattle.interleaver.specs.Places.{place_of}
use Rattle.frame.specs.Symbols.{RightSymbols, received_bits}
use Rattle.distance.specs.Prefixes.{live_count}
use Rattle.live_counts.specs.CleanCounts.{clean_count}
use Rattle.repair.specs.Demand.{Bounds}
use Rattle.repair.specs.Flips.{flipped_at, flips, word_given_back}
use Rattle.repair.specs.declared.Nearest.{Nearest}

-- ---- The counts

-- "the first coded bit of the 49th clocked bit", which leaves the most prefixes live where it alone is flipped: its index, counted from 0,
-- as each clocked bit gives two.
abbrev pub worst_index : ℕ
worst_index = 2 * (49 - 1)

-- "a frame with one flipped data bit has at most 135 at limit 2, a number that is reached when the first coded bit of the 49th clocked bit is
-- the flipped one": and only then.
pub record OneFlipCount (word : ℕ) (frame : List ℕ) (live : ℕ) : Type 0 where
  pub at_most : live ≤ 135
  pub reached : (live ≡ 135) ↔ (flipped_at word frame (place_of worst_index) ≡ true)

-- "a clean frame has live count 81 at limits 0 and 1 and exactly 131 at limit 2" is `clean_count`, to limit 10. "Show it of the count as
-- defined, for every word": and whatever became of the sync bits. With flips the count is at most that of a clean frame at a limit that is
-- greater by as many, where that is 10 at most.
abbrev pub CountsByFlips : Type 0
CountsByFlips =
    (frame : List ℕ) → RightSymbols frame → (word : ℕ) → word < 2 ^ 50
    → (flips word frame ≡ 0 → (limit : ℕ) → limit ≤ 10 → live_count (received_bits frame) limit ≡ clean_count limit)
    × ((flips word frame ≡ 1 → OneFlipCount word frame (live_count (received_bits frame) 2))
    × ((limit : ℕ) → limit + flips word frame ≤ 10 → live_count (received_bits frame) limit ≤ clean_count (limit + flips word frame)))

-- Whatever was received, noise too, at limits up to 5: at most as many as on a clean frame at twice the limit.
abbrev pub CountsOfAny : Type 0
CountsOfAny = (frame : List ℕ) (limit : ℕ) → limit ≤ 5 → live_count (received_bits frame) limit ≤ clean_count (limit + limit)

-- ---- What is answered

-- On a clean frame, at limits up to 10: an answer carries that count, and a budget of that count or more, and no other, gives the sent word
-- back. At limit 10 no budget is so large.
pub record CleanAnswered (word : ℕ) (frame : List ℕ) (limit budget : ℕ) (answer : Result Nearest Refusal) : Type 0 where
  pub counted : (nearest : Nearest) → answer ≡ Ok nearest → nearest.live ≡ clean_count limit
  pub given_back : (answer ≡ Ok (word_given_back word frame limit)) ↔ (clean_count limit ≤ budget)

abbrev pub CleanRepaired : List ℕ → ℕ → ℕ → Result Nearest Refusal → Type 0
CleanRepaired frame limit budget answer =
    limit ≤ 10 → Bounds limit budget → RightSymbols frame → (word : ℕ) → word < 2 ^ 50 → flips word frame ≡ 0
    → CleanAnswered word frame limit budget answer

-- On a frame with one flipped data bit, at limit 2: an answer carries such a count; a budget of the live count or more, and no other, gives
-- the sent word back; and so one of 135 or more always does.
pub record OneFlipAnswered (word : ℕ) (frame : List ℕ) (budget : ℕ) (answer : Result Nearest Refusal) : Type 0 where
  pub counted : (nearest : Nearest) → answer ≡ Ok nearest → OneFlipCount word frame nearest.live
  pub given_back : (answer ≡ Ok (word_given_back word frame 2)) ↔ (live_count (received_bits frame) 2 ≤ budget)
  pub always_given_back : 135 ≤ budget → answer ≡ Ok (word_given_back word frame 2)

abbrev pub OneFlipRepaired : List ℕ → ℕ → ℕ → Result Nearest Refusal → Type 0
OneFlipRepaired frame limit budget answer =
    limit ≡ 2 → Bounds limit budget → RightSymbols frame → (word : ℕ) → word < 2 ^ 50 → flips word frame ≡ 1
    → OneFlipAnswered word frame budget answer

-- On any symbols, at limits up to 4: with a budget of a clean frame's count at twice the limit or more, so 569 at limit 2 and 17,851 at limit
-- 4, 16 is never given.
abbrev pub NeverOverBudget : ℕ → ℕ → Result Nearest Refusal → Type 0
NeverOverBudget limit budget answer =
    limit ≤ 4 → clean_count (limit + limit) ≤ budget → answer ≡ Err Refusal.OverBudget → ⊥
