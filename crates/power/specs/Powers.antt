-- The 19 legal powers and their indexes (01, 'Triple').
use Rattle.std.specs.Prelude.{ℕ, Bool, List, [], ◌∷◌, ltb, length, get_or}
use Rattle.basics.specs.Lists.{index_in}

-- "Power is one of 19: 0 3 7 10 13 17 20 23 27 30 33 37 40 43 47 50 53 57 60, with index 0 to 18 in that order."
unfoldable pub powers : List ℕ
powers = 0 ∷ 3 ∷ 7 ∷ 10 ∷ 13 ∷ 17 ∷ 20 ∷ 23 ∷ 27 ∷ 30 ∷ 33 ∷ 37 ∷ 40 ∷ 43 ∷ 47 ∷ 50 ∷ 53 ∷ 57 ∷ 60 ∷ []

-- The index of a power; 19 where it is no legal one.
unfoldable pub power_index : ℕ → ℕ
power_index power = index_in power powers

-- The power with an index from 0 to 18; 0 past them.
unfoldable pub power_at : ℕ → ℕ
power_at index = get_or powers index 0

-- The power is one of them.
unfoldable pub legal_power : ℕ → Bool
legal_power power = ltb (power_index power) (length powers)
