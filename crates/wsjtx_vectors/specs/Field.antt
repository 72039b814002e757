-- The fields of a line, which bars part.
use Rattle.std.specs.Prelude.{ℕ, zero, suc, ◌+◌, ◌==◌, List, take, drop}
use Rattle.std.specs.List.{position_or_len}

-- Where a byte first stands in a text; the text's length where it doesn't.
unfoldable pub index_of : ℕ → List ℕ → ℕ
index_of byte text = position_or_len (λ b. b == byte) text

-- |
abbrev pub bar : ℕ
bar = 124

-- What stands before the first bar, and what stands after it: all and nothing where there is none.
unfoldable pub before_bar : List ℕ → List ℕ
before_bar line = take (index_of bar line) line

unfoldable pub after_bar : List ℕ → List ℕ
after_bar line = drop (index_of bar line + 1) line

-- A field by its number, from 0 on: no bytes where the line hasn't so many.
unfoldable pub field_at : ℕ → List ℕ → List ℕ
field_at zero line = before_bar line
field_at (suc n) line = field_at n (after_bar line)
