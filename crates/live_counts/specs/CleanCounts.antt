-- How many prefixes are live where a word's own coded bits are received (02, L8).
use Rattle.std.specs.Prelude.{ℕ, List, [], ◌∷◌, get_or}

-- "a clean frame has live count 81 at limits 0 and 1 and exactly 131 at limit 2", and so on to limit 10, from which on no budget is enough.
abbrev pub clean_counts : List ℕ
clean_counts = 81 ∷ 81 ∷ 131 ∷ 279 ∷ 569 ∷ 1573 ∷ 3495 ∷ 7611 ∷ 17_851 ∷ 42_557 ∷ 97_265 ∷ []

-- The count at a limit up to 10; what it is above that isn't said.
unfoldable pub clean_count : ℕ → ℕ
clean_count limit = get_or clean_counts limit 0
