-- What a line says: callsign|locator|power|word|symbols.
use Rattle.std.specs.Prelude.{ℕ, ◌+◌, Bool, cond, ◌&&◌, Option, Some, None, List, map, eqb, length}
use Rattle.basics.specs.Test.{between}
use Rattle.wsjtx_vectors.specs.Field.{field_at}
use Rattle.wsjtx_vectors.specs.Number.{byte_value, number_in}
use Rattle.wsjtx_vectors.specs.declared.vector.Vector.{Vector}

-- A callsign of 6 bytes, a locator of 4, symbols of 162, and beside the power 189 bytes in all: 6, 4, 13, 162 and four bars.
unfoldable pub has_form : List ℕ → Bool
has_form line =
    eqb (length (field_at 0 line)) 6
    && eqb (length (field_at 1 line)) 4
    && eqb (length (field_at 4 line)) 162
    && eqb (length line) (length (field_at 2 line) + 189)

-- 1 or 2 decimal digits
unfoldable pub power_in : List ℕ → Option ℕ
power_in text = cond (between 1 2 (length text)) (number_in 10 text) None

-- 13 hexadecimal digits
unfoldable pub word_in : List ℕ → Option ℕ
word_in text = cond (eqb (length text) 13) (number_in 16 text) None

-- Both numbers, or no vector.
unfoldable pub power_and_word : Option ℕ → Option ℕ → Option Vector
power_and_word (Some power) (Some word) = Some (record { power = power; word = word })
power_and_word (Some power) None = None
power_and_word None word = None

unfoldable pub vector_in : List ℕ → Option Vector
vector_in line = cond (has_form line) (power_and_word (power_in (field_at 2 line)) (word_in (field_at 3 line))) None

-- A digit for each symbol; any byte other than the digits 0 to 3 has a value above 3, which no symbol has.
unfoldable pub symbols_in : List ℕ → List ℕ
symbols_in text = map byte_value text
