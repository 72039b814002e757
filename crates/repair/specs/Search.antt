-- What the search keeps and finds. No promise of `repair` has to be believed through these: they stand between its functions. One of them is
-- a sentence of 01 by itself: `stops` of `SearchFound`.
use Rattle.std.specs.Prelude.{◌≡◌, ℕ, ◌+◌, ◌-◌, ◌^◌, ◌≤◌, ◌<◌, cond, List, leb, ltb, Result, Ok, Err}
use Rattle.refusal.specs.declared.Refusal.{Refusal}
use Rattle.distance.specs.Prefixes.{word_disagreements, live_count}
use Rattle.repair.specs.Answer.{nearest_from}
use Rattle.repair.specs.declared.best.Best.{Best}
use Rattle.repair.specs.declared.search.Found.{Found}
use Rattle.repair.specs.declared.Nearest.{Nearest}

-- ---- The nearest word so far

-- Before any word: the disagreements are one above the limit.
unfoldable pub none_found : ℕ → Best
none_found limit = record { word = 0; fewest = limit + 1; next = limit + 1 }

-- With one word more, and its disagreements.
unfoldable pub best_with : Best → ℕ → ℕ → Best
best_with best word disagreements =
    cond (ltb disagreements best.fewest) (record { word = word; fewest = disagreements; next = best.fewest })
    (cond (ltb disagreements best.next) (record { word = best.word; fewest = best.fewest; next = disagreements })
    best)

-- What the record says of the words below a bound: those that aren't within the limit count as one above it.
pub record BestBelow (received : List ℕ) (limit bound : ℕ) (best : Best) : Type 0 where
  pub in_order : best.fewest ≤ best.next
  pub next_most : best.next ≤ limit + 1
  pub fewest_least : (word : ℕ) → word < bound → best.fewest ≤ word_disagreements received word
  pub next_least : (word : ℕ) → word < bound → (word ≡ best.word → ⊥) → best.next ≤ word_disagreements received word
  pub fewest_found : best.fewest ≤ limit → (best.word < bound) × (word_disagreements received best.word ≡ best.fewest)
  pub next_found : best.next ≤ limit
      → (word : ℕ) × ((word < bound) × ((word ≡ best.word → ⊥) × (word_disagreements received word ≡ best.next)))

-- ---- What a search found

-- "The search stops at once, from however deep, when the count passes the budget": it counts one prefix past the budget at most. The count
-- is above the budget only where the live count is; else it is the live count, and the record is that of all words.
pub record SearchFound (received : List ℕ) (limit budget : ℕ) (found : Found) : Type 0 where
  pub stops : found.live ≤ budget + 1
  pub when_over_budget : budget < found.live → budget < live_count received limit
  pub counted : found.live ≤ budget → found.live ≡ live_count received limit
  pub best_of_all : found.live ≤ budget → BestBelow received limit (2 ^ 50) found.best

-- The answer that it gives, with the number of wrong sync bits.
unfoldable pub nearest_in : Found → ℕ → Nearest
nearest_in found wrong =
    let best = found.best in
    nearest_from best.word best.fewest found.live wrong (best.next - best.fewest)

unfoldable pub answer_of : Found → ℕ → ℕ → ℕ → Result Nearest Refusal
answer_of found wrong limit budget =
    let best = found.best in
    cond (ltb budget found.live) (Err Refusal.OverBudget)
    (cond (ltb limit best.fewest) (Err Refusal.NoneWithinLimit)
    (cond (leb best.next best.fewest) (Err Refusal.SharedFewest)
    (Ok (nearest_in found wrong))))
