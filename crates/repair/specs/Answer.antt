-- What repair (nearest-codeword decoding) answers for any received symbols, limit and budget (01, 'Repair').
use Rattle.std.specs.Prelude.{ℕ, cond, not, List, [], ◌∷◌, eqb, leb, ltb, length, Result, Ok, Err}
use Rattle.basics.specs.Lists.{first_false}
use Rattle.basics.specs.Test.{between}
use Rattle.refusal.specs.declared.Refusal.{Refusal}
use Rattle.refusal.specs.Refusals.{refusal_number, refusal_place}
use Rattle.frame.specs.Symbols.{received_bits, wrong_sync_in}
use Rattle.frame.specs.Answer.{first_large}
use Rattle.distance.specs.Prefixes.{live_count}
use Rattle.distance.specs.Nearest.{fewest, sharing, nearest_word, nearest_margin}
use Rattle.repair.specs.declared.Nearest.{Nearest}

-- "limit above 12, or budget 0 or above 65,536": place 0 or 1, and 2 where neither is so.
unfoldable pub first_bad_bound : ℕ → ℕ → ℕ
first_bad_bound limit budget = first_false (leb limit 12 ∷ between 1 65_536 budget ∷ [])

-- "The answer holds the word, its disagreements, the live count, and the number of the 162 symbols whose sync bit (symbol modulo 2) is
-- wrong." And "Every repair answer carries" the margin (02, L7).
abbrev pub nearest_from : ℕ → ℕ → ℕ → ℕ → ℕ → Nearest
nearest_from word disagreements live wrong margin =
    record { word = word; disagreements = disagreements; live = live; sync_wrong = wrong; margin = margin }

-- A word with its disagreements and its margin, and what else the answer holds.
unfoldable pub nearest_with : List ℕ → ℕ → ℕ → ℕ → ℕ → Nearest
nearest_with frame limit word disagreements margin =
    nearest_from word disagreements (live_count (received_bits frame) limit) (wrong_sync_in frame) margin

-- "The word is the one with the fewest disagreements of all 2^50."
unfoldable pub nearest_of : List ℕ → ℕ → Nearest
nearest_of frame limit =
    let received = received_bits frame in
    nearest_with frame limit (nearest_word received) (fewest received) (nearest_margin received limit)

-- The one word with the fewest disagreements where these are at most the limit, or why there is none. If the fewest lie above the limit,
-- 17 is given, shared or not.
unfoldable pub nearest_within : List ℕ → ℕ → Result Nearest Refusal
nearest_within frame limit =
    let received = received_bits frame in
    cond (ltb limit (fewest received)) (Err Refusal.NoneWithinLimit)
    (cond (ltb 1 (sharing received)) (Err Refusal.SharedFewest)
    (Ok (nearest_of frame limit)))

-- Of 162 symbols of 0 to 3, and a limit and a budget within their bounds: "All four equal their definitions here, from the symbols and
-- the limit alone, whatever the search went through", and the margin "as the fifth" (02, L7).
unfoldable pub searched : List ℕ → ℕ → ℕ → Result Nearest Refusal
searched frame limit budget =
    cond (ltb budget (live_count (received_bits frame) limit)) (Err Refusal.OverBudget) (nearest_within frame limit)

-- "repair 1, 15, 7, 16, 17, 18"
unfoldable pub frame_repaired : List ℕ → ℕ → ℕ → Result Nearest Refusal
frame_repaired frame limit budget =
    cond (not (eqb (length frame) 162)) (Err Refusal.WrongLength)
    (cond (ltb (first_bad_bound limit budget) 2) (Err (Refusal.BadBound (first_bad_bound limit budget)))
    (cond (ltb (first_large frame) 162) (Err (Refusal.SymbolTooLarge (first_large frame)))
    (searched frame limit budget)))

-- ---- The result numbers of an answer: 0 where it has none

-- Refusal number, place, and the word with what belongs to it
pub record RepairNumbers : Type 0 where
  pub number : ℕ
  pub place : ℕ
  pub nearest : Nearest

unfoldable pub no_nearest : Nearest
no_nearest = nearest_from 0 0 0 0 0

unfoldable pub repair_numbers : Result Nearest Refusal → RepairNumbers
repair_numbers (Ok n) = record { number = 0; place = 0; nearest = n }
repair_numbers (Err f) = record { number = refusal_number f; place = refusal_place f; nearest = no_nearest }
