-- The nearest word: "the one with the fewest disagreements of all 2^50" (01, 'Repair'); and its margin: "how many more disagreements the
-- next nearest word has" (02, L7).
use Rattle.std.specs.Prelude.{ℕ, ◌+◌, ◌-◌, ◌^◌, ◌≤◌, ◌<◌, ◌≡◌, ◌⊎◌, Bool, cond, List, eqb, leb, ltb}
use Rattle.basics.specs.Below.{count_below, last_below, least_up_to}
use Rattle.distance.specs.Prefixes.{word_disagreements}

-- "the fewest disagreements of all 2^50"
unfoldable pub fewest : List ℕ → ℕ
fewest received = least_up_to (2 ^ 50 - 1) (word_disagreements received)

-- The word has the fewest disagreements.
unfoldable pub has_fewest : List ℕ → ℕ → Bool
has_fewest received word = eqb (word_disagreements received word) (fewest received)

-- How many "words share the fewest disagreements".
unfoldable pub sharing : List ℕ → ℕ
sharing received = count_below (2 ^ 50) (has_fewest received)

-- The last word that has them: where only one does, that one (`nearest_only`, `only_nearest` of proofs/NearestLaws.antt).
unfoldable pub nearest_word : List ℕ → ℕ
nearest_word received = last_below (2 ^ 50) (has_fewest received)

-- The words other than one, numbered from 0 on: those below it, then those above it.
unfoldable pub other_than : ℕ → ℕ → ℕ
other_than word i = cond (ltb i word) i (i + 1)

-- The fewest disagreements of the 2^50 - 1 words other than the nearest.
unfoldable pub fewest_of_others : List ℕ → ℕ
fewest_of_others received = least_up_to (2 ^ 50 - 2) (λ i. word_disagreements received (other_than (nearest_word received) i))

-- Those of "the next nearest word". "If no other word is within the limit, that next is taken as limit + 1."
unfoldable pub next_fewest : List ℕ → ℕ → ℕ
next_fewest received limit = cond (leb (fewest_of_others received) limit) (fewest_of_others received) (limit + 1)

-- The margin of the nearest word: "how many more disagreements the next nearest word has".
unfoldable pub nearest_margin : List ℕ → ℕ → ℕ
nearest_margin received limit = next_fewest received limit - fewest received

-- ---- What is asked of a word and of a margin

-- The word has "the fewest disagreements of all 2^50".
abbrev pub AtMostAll : List ℕ → ℕ → Type 0
AtMostAll received word =
    (word < 2 ^ 50) × ((other : ℕ) → other < 2 ^ 50 → word_disagreements received word ≤ word_disagreements received other)

-- "every other 50-bit word has more disagreements"
abbrev pub OnlyNearest : List ℕ → ℕ → Type 0
OnlyNearest received word =
    (word < 2 ^ 50) × ((other : ℕ) → other < 2 ^ 50 → (other ≡ word → ⊥) → word_disagreements received word < word_disagreements received other)

-- Another word is within the limit, and has as many more disagreements than the word as the margin says.
pub record OtherWithin (received : List ℕ) (limit word margin : ℕ) : Type 0 where
  pub other : ℕ
  pub in_50_bits : other < 2 ^ 50
  pub different : other ≡ word → ⊥
  pub more_by_margin : word_disagreements received other ≡ word_disagreements received word + margin
  pub within_limit : word_disagreements received other ≤ limit

-- "no other word is within the limit": the next "is taken as limit + 1", and the margin is that less the word's disagreements.
pub record NoOtherWithin (received : List ℕ) (limit word margin : ℕ) : Type 0 where
  pub none_within : (other : ℕ) → other < 2 ^ 50 → (other ≡ word → ⊥) → limit < word_disagreements received other
  pub next_after_limit : word_disagreements received word + margin ≡ limit + 1

-- The margin of a word: every other word has at least so many more disagreements; and the next nearest has exactly so many more, or, where
-- no other word is within the limit, the next that is taken in its place.
pub record IsMargin (received : List ℕ) (limit word margin : ℕ) : Type 0 where
  pub at_least : (other : ℕ) → other < 2 ^ 50 → (other ≡ word → ⊥)
      → word_disagreements received word + margin ≤ word_disagreements received other
  pub exactly : OtherWithin received limit word margin ⊎ NoOtherWithin received limit word margin
