-- The places of the coded bits in a frame (01, 'Frame': Interleaving), and when two tables are inverse to each other (02, L5).
use Rattle.std.specs.Prelude.{◌≡◌, ℕ, zero, suc, ◌+◌, ◌*◌, ◌/◌, ◌%◌, ◌^◌, ◌<◌, cond, List, [], ◌∷◌, ltb, get_or}
use Rattle.basics.specs.Lists.{tabulate, index_in}

-- The n lowest bits of a number, reversed: the lowest goes to the top, and the others, reversed, below it.
unfoldable pub reversed_in : ℕ → ℕ → ℕ
reversed_in zero number = 0
reversed_in (suc n) number = number % 2 * 2 ^ n + reversed_in n (number / 2)

-- "J is I with its eight bits reversed"
unfoldable pub reversed : ℕ → ℕ
reversed i = reversed_in 8 i

-- "for I from 0 to 255, .. if J is below 162 the next unused S goes to place J. A counter moves only when a bit is placed." These are the
-- places from an address I on, for a number of addresses.
unfoldable pub places_from : ℕ → ℕ → List ℕ
places_from zero i = []
places_from (suc n) i =
    let rest = places_from n (suc i) in
    cond (ltb (reversed i) 162) (reversed i ∷ rest) rest

-- The place of each coded bit, in coded order: "So S0, S1, S2, S3 go to places 0, 128, 64, 32."
unfoldable pub all_places : List ℕ
all_places = places_from 256 0

unfoldable pub place_of : ℕ → ℕ
place_of index = get_or all_places index 0

-- Its inverse: the index of the coded bit that goes to a place.
unfoldable pub index_at : ℕ → ℕ
index_at place = index_in place all_places

-- The index of each place's coded bit.
unfoldable pub all_indexes : List ℕ
all_indexes = tabulate 162 index_at

-- Each of the 162 entries of the first table is below 162, and the second table leads back from it: back[there[i]] is i.
abbrev pub TakenBack : List ℕ → List ℕ → Type 0
TakenBack there back = (i : ℕ) → i < 162 → (get_or there i 0 < 162) × (get_or back (get_or there i 0) 0 ≡ i)

-- "a constant table of 162 places, with the inverse beside it, .. inverse to each other" (02, L5)
pub record Inverse (places indexes : List ℕ) : Type 0 where
  -- From a coded bit's place back to its index.
  pub indexes_back : TakenBack places indexes
  -- From the index of a place's coded bit back to the place.
  pub places_back : TakenBack indexes places
