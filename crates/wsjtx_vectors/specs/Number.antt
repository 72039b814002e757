-- Numerals: the number that digits write in a base of at most 16.
use Rattle.std.specs.Prelude.{ℕ, ◌-◌, Bool, true, cond, ◌&&◌, Option, Some, None, List, [], ◌∷◌, map, ltb, length, replicate}
use Rattle.std.specs.Option.{unwrap_or}
use Rattle.radix.specs.Numeral.{number_of}
use Rattle.basics.specs.Test.{between}

-- 0 to 9 count 0 to 9, a to f count 10 to 15; no other byte is a digit.
unfoldable pub digit_value : ℕ → Option ℕ
digit_value byte =
    cond (between 48 57 byte) (Some (byte - 48))
    (cond (between 97 102 byte) (Some (byte - 87)) None)

-- A digit's value; any other byte has the value 16.
unfoldable pub byte_value : ℕ → ℕ
byte_value byte = unwrap_or (digit_value byte) 16

-- Each byte is a digit of the base.
unfoldable pub all_digits : ℕ → List ℕ → Bool
all_digits base [] = true
all_digits base (b ∷ bs) = ltb (byte_value b) base && all_digits base bs

-- The number that the digits' values write, every radix the base; none where a byte is no digit of it.
unfoldable pub number_in : ℕ → List ℕ → Option ℕ
number_in base numeral =
    cond (all_digits base numeral) (Some (number_of (replicate (length numeral) base) (map byte_value numeral))) None
