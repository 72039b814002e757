-- The numbers of 01's table of refusals by name, and the number and the place of each refusal.
use Rattle.std.specs.Prelude.{ℕ, ◌-◌, List, [], ◌∷◌, get_or, Result, Ok, Err}
use Rattle.refusal.specs.declared.Refusal.{Refusal}

-- ---- The numbers by name

-- "a lent buffer hasn't its exact length (call 6, locator 4, frame 162)"
abbrev pub wrong_length : ℕ
wrong_length = 1

-- "a character is outside its set"; its place is the first such, 0 to 9
abbrev pub bad_character : ℕ
bad_character = 2

-- "power isn't one of the 19"
abbrev pub bad_power : ℕ
bad_power = 3

-- "word is 2^50 or more; in word reading also N is 262,177,560 or more"
abbrev pub word_too_large : ℕ
word_too_large = 4

-- "M1 is 32,400 or more"
abbrev pub bad_locator_number : ℕ
bad_locator_number = 5

-- "low seven bits less 64 aren't a legal power"
abbrev pub bad_power_bits : ℕ
bad_power_bits = 6

-- "a symbol is above 3"; its place is the first such
abbrev pub symbol_too_large : ℕ
symbol_too_large = 7

-- "strict: a sync bit is wrong"; its place is the first such
abbrev pub wrong_sync : ℕ
wrong_sync = 8

-- "strict: no 50-bit word has this frame"
abbrev pub no_word : ℕ
no_word = 9

-- "first character isn't 0, 1, Q, or a space in places 3 to 5"; its place is 0, or that place
abbrev pub not_telemetry : ℕ
not_telemetry = 10

-- "B is even: extended, not basic"
abbrev pub extended_telemetry : ℕ
extended_telemetry = 11

-- "A is 615,168 or more"
abbrev pub bad_position_number : ℕ
bad_position_number = 12

-- "B is 604,800 or more"
abbrev pub bad_sensor_number : ℕ
bad_sensor_number = 13

-- "a telemetry input is out of range"; its place is the first such, 0 to 8
abbrev pub out_of_range : ℕ
out_of_range = 14

-- "limit above 12, or budget 0 or above 65,536"; its place is 0 or 1
abbrev pub bad_bound : ℕ
bad_bound = 15

-- "live count above budget"
abbrev pub over_budget : ℕ
over_budget = 16

-- "no word within the limit"
abbrev pub none_within_limit : ℕ
none_within_limit = 17

-- "two or more words share the fewest disagreements"
abbrev pub shared_fewest : ℕ
shared_fewest = 18

-- ---- 02, L3

-- "field table bad"
abbrev pub bad_field_table : ℕ
bad_field_table = 19

-- "basic and not extended"
abbrev pub not_extended : ℕ
not_extended = 20

-- "reserved not 0"
abbrev pub reserved_not_zero : ℕ
reserved_not_zero = 21

-- "slot above 4 or type above 15 on writing"
abbrev pub bad_slot_or_type : ℕ
bad_slot_or_type = 22

-- "number left over above the fields"
abbrev pub number_left_over : ℕ
number_left_over = 23

-- ---- The number and the place of a refusal

abbrev pub refusal_number : Refusal → ℕ
refusal_number Refusal.WrongLength = wrong_length
refusal_number (Refusal.BadCharacter place) = bad_character
refusal_number Refusal.BadPower = bad_power
refusal_number Refusal.WordTooLarge = word_too_large
refusal_number Refusal.BadLocatorNumber = bad_locator_number
refusal_number Refusal.BadPowerBits = bad_power_bits
refusal_number (Refusal.SymbolTooLarge place) = symbol_too_large
refusal_number (Refusal.WrongSync place) = wrong_sync
refusal_number Refusal.NoWord = no_word
refusal_number (Refusal.NotTelemetry place) = not_telemetry
refusal_number Refusal.ExtendedTelemetry = extended_telemetry
refusal_number Refusal.BadPositionNumber = bad_position_number
refusal_number Refusal.BadSensorNumber = bad_sensor_number
refusal_number (Refusal.OutOfRange place) = out_of_range
refusal_number (Refusal.BadBound place) = bad_bound
refusal_number Refusal.OverBudget = over_budget
refusal_number Refusal.NoneWithinLimit = none_within_limit
refusal_number Refusal.SharedFewest = shared_fewest
refusal_number Refusal.BadFieldTable = bad_field_table
refusal_number Refusal.NotExtended = not_extended
refusal_number Refusal.ReservedNotZero = reserved_not_zero
refusal_number Refusal.BadSlotOrType = bad_slot_or_type
refusal_number Refusal.NumberLeftOver = number_left_over

-- 0 where it names none.
abbrev pub refusal_place : Refusal → ℕ
refusal_place (Refusal.BadCharacter place) = place
refusal_place (Refusal.SymbolTooLarge place) = place
refusal_place (Refusal.WrongSync place) = place
refusal_place (Refusal.NotTelemetry place) = place
refusal_place (Refusal.OutOfRange place) = place
refusal_place (Refusal.BadBound place) = place
refusal_place other = 0

-- Number and place; both are 0 where nothing is refused.
pub record RefusalNumbers : Type 0 where
  pub number : ℕ
  pub place : ℕ

abbrev pub success : RefusalNumbers
success = record { number = 0; place = 0 }

abbrev pub numbers_of : Refusal → RefusalNumbers
numbers_of f = record { number = refusal_number f; place = refusal_place f }

-- ---- Back: the refusal with a number from 1 to 23, at a place where it names one

-- All of them, in the order of their numbers.
unfoldable pub refusals : ℕ → List Refusal
refusals place =
    Refusal.WrongLength ∷
    Refusal.BadCharacter place ∷
    Refusal.BadPower ∷
    Refusal.WordTooLarge ∷
    Refusal.BadLocatorNumber ∷
    Refusal.BadPowerBits ∷
    Refusal.SymbolTooLarge place ∷
    Refusal.WrongSync place ∷
    Refusal.NoWord ∷
    Refusal.NotTelemetry place ∷
    Refusal.ExtendedTelemetry ∷
    Refusal.BadPositionNumber ∷
    Refusal.BadSensorNumber ∷
    Refusal.OutOfRange place ∷
    Refusal.BadBound place ∷
    Refusal.OverBudget ∷
    Refusal.NoneWithinLimit ∷
    Refusal.SharedFewest ∷
    Refusal.BadFieldTable ∷
    Refusal.NotExtended ∷
    Refusal.ReservedNotZero ∷
    Refusal.BadSlotOrType ∷
    Refusal.NumberLeftOver ∷
    []

unfoldable pub refusal_from : ℕ → ℕ → Refusal
refusal_from number place = get_or (refusals place) (number - 1) Refusal.NumberLeftOver

-- ---- The answer is a refusal

abbrev pub Refused : {A : Type 0} → Result A Refusal → Type 0
Refused (Ok a) = ⊥
Refused (Err f) = Unit
