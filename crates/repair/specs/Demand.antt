-- What is asked of an answer: what is refused before a search; and demand 3: when the answer is "out of budget", when it is a word and
-- which, with which margin. What is asked of flipped data bits is in Flips.antt.
use Rattle.std.specs.Prelude.{◌≡◌, ◌↔◌, ◌⊎◌, ℕ, ◌^◌, ◌≤◌, ◌<◌, List, length, get_or, Result, Ok, Err}
use Rattle.refusal.specs.declared.Refusal.{Refusal}
use Rattle.frame.specs.Symbols.{RightSymbols, received_bits, wrong_sync_in}
use Rattle.distance.specs.Prefixes.{word_disagreements, live_count}
use Rattle.distance.specs.Nearest.{AtMostAll, OnlyNearest, IsMargin}
use Rattle.repair.specs.declared.Nearest.{Nearest}

-- "a limit of 0 to 12 wrong data bits and a budget of 1 to 65,536"
pub record Bounds (limit budget : ℕ) : Type 0 where
  pub limit_to_12 : limit ≤ 12
  pub budget_from_1 : 1 ≤ budget
  pub budget_to_65536 : budget ≤ 65_536

-- ---- What is refused before a search

-- The first symbol above 3 stands at the place.
pub record FirstLargeAt (frame : List ℕ) (place : ℕ) : Type 0 where
  pub within : place < length frame
  pub large : 3 < get_or frame place 0
  pub none_before : (earlier : ℕ) → earlier < place → get_or frame earlier 0 ≤ 3

-- 01's table for 1, 15 and 7, in that order: each is given exactly when it applies and none before it does.
pub record AsChecked (frame : List ℕ) (limit budget : ℕ) (answer : Result Nearest Refusal) : Type 0 where
  -- "a lent buffer hasn't its exact length (.. frame 162)"
  pub when_wrong_length : (answer ≡ Err Refusal.WrongLength) ↔ (length frame ≡ 162 → ⊥)
  -- "limit above 12, or budget 0 or above 65,536", place 0 or 1
  pub bad_limit : (answer ≡ Err (Refusal.BadBound 0)) ↔ ((length frame ≡ 162) × (12 < limit))
  pub bad_budget : (answer ≡ Err (Refusal.BadBound 1))
      ↔ ((length frame ≡ 162) × ((limit ≤ 12) × ((budget ≡ 0) ⊎ (65_536 < budget))))
  -- "a symbol is above 3": the first such
  pub large_symbol : (place : ℕ)
      → ((answer ≡ Err (Refusal.SymbolTooLarge place)) ↔ ((length frame ≡ 162) × (Bounds limit budget × FirstLargeAt frame place)))

-- ---- What is answered

-- "The answer is that word, with its disagreements and the live count: every other 50-bit word has more disagreements."
pub record IsNearest (frame : List ℕ) (limit : ℕ) (nearest : Nearest) : Type 0 where
  pub only_nearest : OnlyNearest (received_bits frame) nearest.word
  pub its_disagreements : nearest.disagreements ≡ word_disagreements (received_bits frame) nearest.word
  pub within_limit : nearest.disagreements ≤ limit
  pub its_live_count : nearest.live ≡ live_count (received_bits frame) limit
  pub its_wrong_sync : nearest.sync_wrong ≡ wrong_sync_in frame
  -- "how many more disagreements the next nearest word has. If no other word is within the limit, that next is taken as limit + 1." (02, L7)
  pub its_margin : IsMargin (received_bits frame) limit nearest.word nearest.margin

-- "no word within the limit"
abbrev pub NoneWithin : List ℕ → ℕ → Type 0
NoneWithin received limit = (word : ℕ) → word < 2 ^ 50 → limit < word_disagreements received word

-- "two or more words share the fewest disagreements", which are at most the limit.
pub record Shared (received : List ℕ) (limit : ℕ) : Type 0 where
  pub one : ℕ
  pub another : ℕ
  pub different : one ≡ another → ⊥
  pub one_fewest : AtMostAll received one
  pub another_fewest : AtMostAll received another
  pub within_limit : word_disagreements received one ≤ limit

-- Demand 3: when the answer is "out of budget", when it is a word and which, and else why there is none.
pub record Demanded (frame : List ℕ) (limit budget : ℕ) (answer : Result Nearest Refusal) : Type 0 where
  -- "it says "out of budget" exactly when the live count .. is above the budget"
  pub out_of_budget : (answer ≡ Err Refusal.OverBudget) ↔ (budget < live_count (received_bits frame) limit)
  -- "Otherwise it answers exactly when one single 50-bit word has the fewest disagreements with those symbols, and these are at most the
  -- limit."
  pub answered : (nearest : Nearest)
      → ((answer ≡ Ok nearest) ↔ ((live_count (received_bits frame) limit ≤ budget) × IsNearest frame limit nearest))
  -- Where there is no such word, 01's table says why.
  pub none_within : (answer ≡ Err Refusal.NoneWithinLimit)
      ↔ ((live_count (received_bits frame) limit ≤ budget) × NoneWithin (received_bits frame) limit)
  pub shared : (answer ≡ Err Refusal.SharedFewest)
      ↔ ((live_count (received_bits frame) limit ≤ budget) × Shared (received_bits frame) limit)

-- "Repair takes any 162 symbols of 0 to 3, a limit .. and a budget .. Whichever these are, ..": what is demanded of its answer.
abbrev pub AsDemanded : List ℕ → ℕ → ℕ → Result Nearest Refusal → Type 0
AsDemanded frame limit budget answer = RightSymbols frame → Bounds limit budget → Demanded frame limit budget answer
