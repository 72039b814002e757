-- A table of fields, the code of a reading and the reading of a code (02, L3).
use Rattle.std.specs.Prelude.{ℕ, ◌+◌, ◌-◌, ◌*◌, ◌/◌, Bool, true, cond, ◌&&◌, leb, ℤ, pos, negsuc, neg_ℤ, nat_abs, ◌+ℤ◌, ◌-ℤ◌, length, get_or}
use mathlib.Core.List.{List, [], ◌∷◌, map, zip_with}
use Rattle.std.specs.Int.Signed.{le_z}
use Rattle.basics.specs.Test.{between, betweenℤ}
use Rattle.radix.specs.Numeral as Numeral
use Rattle.extended.specs.declared.field.Field.{Field}

-- ---- The table

-- A number that is to be 1 or more; one below 0 is as illegal as 0.
unfoldable pub from_zero : ℤ → ℕ
from_zero (pos n) = n
from_zero (negsuc n) = 0

-- The field of three numbers: "each with lowest number, step and count".
unfoldable pub field_of : ℤ → ℤ → ℤ → Field
field_of lowest step count = record { lowest = lowest; step = from_zero step; count = from_zero count }

-- The field of three numbers that stand together.
abbrev pub field_in : List ℤ → Field
field_in three = field_of (get_or three 0 (pos 0)) (get_or three 1 (pos 0)) (get_or three 2 (pos 0))

-- What stands past the last field.
abbrev pub no_field : Field
no_field = record { lowest = pos 0; step = 0; count = 0 }

-- "A caller lends a table": the numbers of its fields, three a field.
unfoldable pub fields_of : List ℤ → List Field
fields_of [] = []
fields_of (lowest ∷ []) = []
fields_of (lowest ∷ step ∷ []) = []
fields_of (lowest ∷ step ∷ count ∷ rest) = field_of lowest step count ∷ fields_of rest

-- The reading of a code: "for each field, lowest plus code times step".
unfoldable pub field_reading : Field → ℕ → ℤ
field_reading f code = f.lowest +ℤ pos (code * f.step)

-- The highest reading is that of the last code.
unfoldable pub highest : Field → ℤ
highest f = field_reading f (f.count - 1)

unfoldable pub fits_signed32 : ℤ → Bool
fits_signed32 x = betweenℤ (neg_ℤ (pos 2_147_483_648)) (pos 2_147_483_647) x

-- "steps are 1 or more, lowest and highest fit signed 32 bits, counts are 2 or more"
unfoldable pub legal_field : Field → Bool
legal_field f = leb 1 f.step && (leb 2 f.count && (fits_signed32 f.lowest && fits_signed32 (highest f)))

unfoldable pub legal_fields : List Field → Bool
legal_fields [] = true
legal_fields (f ∷ fs) = legal_field f && legal_fields fs

unfoldable pub count_of : Field → ℕ
count_of f = f.count

abbrev pub counts : List Field → List ℕ
counts fs = map count_of fs

-- "a table of 1 to 29 fields", "and their product at most 608,612,940"
unfoldable pub legal_table : List Field → Bool
legal_table fs = between 1 29 (length fs) && (legal_fields fs && leb (Numeral.count (counts fs)) 608_612_940)

-- ---- Codes

-- "Readings are clamped to the range"
unfoldable pub clamped : Field → ℤ → ℤ
clamped f x = cond (le_z x f.lowest) f.lowest (cond (le_z (highest f) x) (highest f) x)

-- "then rounded to the nearest step, halves up": so many half steps above the lowest, and one more, are twice the code and at most one
-- over. No clamped reading is below the lowest, so that the difference is its own absolute value.
unfoldable pub code_of : Field → ℤ → ℕ
code_of f x = (2 * nat_abs (clamped f x -ℤ f.lowest) + f.step) / (2 * f.step)

abbrev pub codes_of : List Field → List ℤ → List ℕ
codes_of fs readings = zip_with code_of fs readings

-- The readings of codes.
abbrev pub field_readings : List Field → List ℕ → List ℤ
field_readings fs codes = zip_with field_reading fs codes
