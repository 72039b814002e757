-- Laws of the interleaver: there are 162 places, each below 162, and the places and the indexes are inverse to each other.
use mathlib.Core.Path.{◌≡◌, refl, ◌∙◌}
use Prim.Native.Nat.{ℕ, ◌<◌}
use mathlib.Core.Bool.{Bool, true, ◌&&◌}
use mathlib.Core.List.{[], ◌∷◌}
use lib.Dec.{eqb, ltb}
use lib.ListN.{length, get_or, take}
use borrow.Author.Tests.{eqb-true, ltb-true}
use Rattle.basics.specs.Lists.{first_failing, index_in}
use Rattle.basics.proofs.Choice.{both_true}
use Rattle.basics.proofs.ListLaws.{get_d_tabulate}
use Rattle.basics.proofs.Tables.{every_below, below_at}
use Rattle.interleaver.specs.Places.{reversed_in, reversed, places_from, all_places, place_of, index_at, all_indexes, Inverse}

-- ---- The places

length_places : length all_places ≡ 162
unfolding all_places places_from reversed reversed_in
length_places = refl

-- "So S0, S1, S2, S3 go to places 0, 128, 64, 32."
first_places : take 4 all_places ≡ 0 ∷ 128 ∷ 64 ∷ 32 ∷ []
unfolding all_places places_from reversed reversed_in
first_places = refl

pub get_d_places : (index : ℕ) → get_or all_places index 0 ≡ place_of index
unfolding place_of
get_d_places index = refl

-- f gives one of the 162, and g takes it back.
undone : (ℕ → ℕ) → (ℕ → ℕ) → ℕ → Bool
undone f g i = ltb (f i) 162 && eqb (g (f i)) i

-- One test of all, both ways.
both_undone : ℕ → Bool
both_undone i = undone place_of index_at i && undone index_at place_of i

each_undone : every_below both_undone 162 ≡ true
unfolding both_undone undone place_of index_at all_places places_from reversed reversed_in index_in first_failing
each_undone = refl

of_undone : (f g : ℕ → ℕ) (i : ℕ) → undone f g i ≡ true → (f i < 162) × (g (f i) ≡ i)
unfolding undone
of_undone f g i tested =
    let tests = both_true (ltb (f i) 162) _ tested in
    (ltb-true _ _ tests.0, eqb-true _ _ tests.1)

module _ (i : ℕ) (h : i < 162) where
  tests : (undone place_of index_at i ≡ true) × (undone index_at place_of i ≡ true)
  unfolding both_undone
  tests = both_true (undone place_of index_at i) _ (below_at both_undone 162 each_undone i h)

  pub place_of_below : place_of i < 162
  place_of_below = (of_undone place_of index_at i tests.0).0

  pub index_at_place_of : index_at (place_of i) ≡ i
  index_at_place_of = (of_undone place_of index_at i tests.0).1

  pub index_at_below : index_at i < 162
  index_at_below = (of_undone index_at place_of i tests.1).0

  pub place_of_index_at : place_of (index_at i) ≡ i
  place_of_index_at = (of_undone index_at place_of i tests.1).1

pub get_d_indexes : (place : ℕ) → place < 162 → get_or all_indexes place 0 ≡ index_at place
unfolding all_indexes
get_d_indexes place h = get_d_tabulate 162 index_at place h

pub places_indexes : Inverse all_places all_indexes
places_indexes =
    record {
      indexes_back =
          λ index h.
          rw (get_d_places index) (place_of_below index h, get_d_indexes (place_of index) (place_of_below index h) ∙ index_at_place_of index h);
      places_back =
          λ place h.
          rw (get_d_indexes place h) (index_at_below place h, get_d_places (index_at place) ∙ place_of_index_at place h);
    }
