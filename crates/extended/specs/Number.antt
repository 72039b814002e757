-- The number that holds the codes, the slot and the type, and what it holds (02, L3).
use Rattle.std.specs.Prelude.{ℕ, ◌+◌, ◌*◌, ◌/◌, ◌%◌, List, [], ◌∷◌, ◌++◌, reverse, get_or}
use Rattle.radix.specs.Numeral.{count, number_of, digits_of}
use Rattle.u4b.specs.Characters.{lower_radices}
use Rattle.u4b.specs.declared.Payload.{Payload}
use Rattle.extended.specs.Fields.{counts}
use Rattle.extended.specs.declared.field.Field.{Field}
use Rattle.extended.specs.declared.Header.{Header}

-- ---- Packing: "starts at 0 and for each field multiplies by its count and adds its code"

-- "then slot (5), type (16), reserved (4, sent as 0), telemetry type (2, sent as 0)"
unfoldable pub header_radices : List ℕ
header_radices = 5 ∷ 16 ∷ 4 ∷ 2 ∷ []

unfoldable pub header_digits : Header → List ℕ
header_digits h = h.slot ∷ h.kind ∷ 0 ∷ 0 ∷ []

-- "last field first"
unfoldable pub extended_radices : List Field → List ℕ
extended_radices fs = reverse (counts fs) ++ header_radices

unfoldable pub extended_digits : Header → List ℕ → List ℕ
extended_digits h codes = reverse codes ++ header_digits h

unfoldable pub extended_number : Header → List Field → List ℕ → ℕ
extended_number h fs codes = number_of (extended_radices fs) (extended_digits h codes)

-- "The number is split from the low end by 19, 10, 10, 18, 18, 26, 26, 26, 36 into power index, locator and callsign places 5, 4, 3, 1": the
-- five lowest digits are those of the lower number of a message, and the four above them those of the upper one.
unfoldable pub extended_payload : Header → List Field → List ℕ → Payload
extended_payload h fs codes =
    let n = extended_number h fs codes in
    record { channel = h.channel; upper = n / count lower_radices; lower = n % count lower_radices }

-- ---- Back

-- The number of a message's two numbers.
unfoldable pub payload_number : Payload → ℕ
payload_number p = p.upper * count lower_radices + p.lower

-- Slot, type, reserved and telemetry type: the lowest digits.
unfoldable pub slot_in : ℕ → ℕ
slot_in n = get_or (digits_of header_radices n) 0 0

unfoldable pub kind_in : ℕ → ℕ
kind_in n = get_or (digits_of header_radices n) 1 0

unfoldable pub reserved_in : ℕ → ℕ
reserved_in n = get_or (digits_of header_radices n) 2 0

unfoldable pub telemetry_type_in : ℕ → ℕ
telemetry_type_in n = get_or (digits_of header_radices n) 3 0

unfoldable pub header_in : Payload → Header
header_in p = let n = payload_number p in record { channel = p.channel; slot = slot_in n; kind = kind_in n }

-- The codes: the digits above them, last field first.
unfoldable pub codes_in : List Field → ℕ → List ℕ
codes_in fs n = reverse (digits_of (reverse (counts fs)) (n / count header_radices))

-- What is left of the number above the fields.
unfoldable pub left_over : List Field → ℕ → ℕ
left_over fs n = n / count (extended_radices fs)
