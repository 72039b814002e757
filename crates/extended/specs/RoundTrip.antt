-- What writing and reading extended telemetry promise of each other (02, L3): the round trips, how far what reads back is from what was sent,
-- that the reader refuses exactly the messages whose capital form the writer never makes, that two lists of codes never share a message, and
-- that every message of telemetry is of exactly one kind.
use Rattle.std.specs.Prelude.{ℕ, ◌≡◌, ◌↔◌, ◌⊎◌, true, ℤ, length, Result, Ok, Err}
use mathlib.Core.List.{List, [], ◌∷◌, zip_with}
use Rattle.basics.specs.Rounding.{WithinHalfStep}
use Rattle.radix.specs.Numeral.{Digits}
use Rattle.refusal.specs.Refusals.{Refused}
use Rattle.message.specs.Character.{capital_form}
use Rattle.refusal.specs.declared.Refusal.{Refusal}
use Rattle.u4b.specs.Answer.{payload_read}
use Rattle.u4b.specs.RoundTrip.{PayloadWritesAs}
use Rattle.u4b.specs.declared.Payload.{Payload}
use Rattle.telemetry.specs.Answer.{telemetry_read}
use Rattle.extended.specs.Fields.{fields_of, field_reading, clamped, code_of, counts, codes_of}
use Rattle.extended.specs.Number.{extended_payload}
use Rattle.extended.specs.Answer.{extended_first, one_each, legal_slot_and_type, extended_message, extended_callsign, extended_locator, extended_read, readings_in}
use Rattle.extended.specs.declared.field.Field.{Field}
use Rattle.extended.specs.declared.Header.{Header}

-- ---- What reads back

-- "the reading sent, clamped and rounded"
unfoldable pub rounded : Field → ℤ → ℤ
rounded f x = field_reading f (code_of f x)

abbrev pub rounded_readings : List Field → List ℤ → List ℤ
rounded_readings fs readings = zip_with rounded fs readings

-- What reads back of a message: channel, slot and type, and these readings, whatever the lent ones held.
pub record ReadsAs (callsign locator : List ℕ) (power : ℕ) (numbers : List ℤ) (h : Header) (readings : List ℤ) : Type 0 where
  pub its_header : extended_read callsign locator power numbers (length readings) ≡ Ok h
  pub its_readings : readings_in callsign locator power numbers ≡ readings

-- What was written reads back, clamped and rounded: the callsign and locator with the answer's power, where it has one.
abbrev pub ExtendedReadsBack : Result ℕ Refusal → Header → List ℤ → List ℤ → List ℕ → List ℕ → Type 0
ExtendedReadsBack (Ok p) h numbers readings callsign locator =
    ReadsAs callsign locator p numbers h (rounded_readings (fields_of numbers) readings)
ExtendedReadsBack (Err f) h numbers readings callsign locator = Unit

-- One reading a field, and with y the clamped reading that was sent and v what reads back, 2·(v - y) ≤ step and 2·(y - v) < step.
unfoldable pub EachNearest : List Field → List ℤ → List ℤ → Type 0
EachNearest [] [] [] = Unit
EachNearest [] [] (v ∷ back) = ⊥
EachNearest [] (x ∷ sent) back = ⊥
EachNearest (f ∷ fs) [] back = ⊥
EachNearest (f ∷ fs) (x ∷ sent) [] = ⊥
EachNearest (f ∷ fs) (x ∷ sent) (v ∷ back) = WithinHalfStep f.step (clamped f x) v × EachNearest fs sent back

-- What was written reads back within half a step: the callsign and locator with the answer's power, where it has one.
abbrev pub ExtendedNearest : Result ℕ Refusal → List ℤ → List ℤ → List ℕ → List ℕ → Type 0
ExtendedNearest (Ok p) numbers readings callsign locator =
    EachNearest (fields_of numbers) readings (readings_in callsign locator p numbers)
ExtendedNearest (Err f) numbers readings callsign locator = Unit

-- ---- "two different code lists under one table never share a triple"

-- A legal slot and type and a code below its count for each field, which write this message.
pub record CodesWriteAs (h : Header) (fs : List Field) (codes : List ℕ) (callsign locator : List ℕ) (power : ℕ) : Type 0 where
  pub its_header : legal_slot_and_type h ≡ true
  pub its_codes : Digits (counts fs) codes
  pub its_message : PayloadWritesAs extended_first (extended_payload h fs codes) callsign locator power

-- Whatever codes write the message that was written are those of its readings, and channel, slot and type are the same.
abbrev pub CodesNeverShared : Result ℕ Refusal → Header → List ℤ → List ℤ → List ℕ → List ℕ → Type 0
CodesNeverShared (Ok p) h numbers readings callsign locator =
    (other : Header) (codes : List ℕ) → CodesWriteAs other (fields_of numbers) codes callsign locator p
    → (other ≡ h) × (codes ≡ codes_of (fields_of numbers) readings)
CodesNeverShared (Err f) h numbers readings callsign locator = Unit

-- ---- What was read writes the message back

-- This message is written from the readings under the table.
pub record ExtendedWritesAs (h : Header) (numbers readings : List ℤ) (callsign locator : List ℕ) (power : ℕ) : Type 0 where
  pub its_lengths : one_each (length numbers) (length readings) ≡ true
  pub its_power : extended_message h (fields_of numbers) readings ≡ Ok power
  pub its_callsign : extended_callsign h (fields_of numbers) readings ≡ callsign
  pub its_locator : extended_locator h (fields_of numbers) readings ≡ locator

-- What was read writes the capital form back: where the answer is no refusal, it and the readings write the message in capitals.
abbrev pub ExtendedWritesBack : Result Header Refusal → List ℤ → List ℤ → List ℕ → List ℕ → ℕ → Type 0
ExtendedWritesBack (Ok h) numbers readings callsign locator power =
    ExtendedWritesAs h numbers readings (capital_form callsign) (capital_form locator) power
ExtendedWritesBack (Err f) numbers readings callsign locator power = Unit

-- ---- Refused exactly where nothing is written

-- No channel, slot, type and so many readings write this message under the table. Numbers that don't fit their types are clamped, or
-- refused as others are, so that nothing is added by naming them here.
abbrev pub NeverExtended : List ℤ → ℕ → List ℕ → List ℕ → ℕ → Type 0
NeverExtended numbers lent callsign locator power =
    (h : Header) (readings : List ℤ) → length readings ≡ lent → ExtendedWritesAs h numbers readings callsign locator power → ⊥

-- The answer, where so many readings are lent, is a refusal exactly where nothing writes the message's capital form: under a bad table, or
-- with a wrong number of readings, nothing is written and every message refused.
abbrev pub ExtendedRefusedExactly : Result Header Refusal → List ℤ → ℕ → List ℕ → List ℕ → ℕ → Type 0
ExtendedRefusedExactly answer numbers lent callsign locator power =
    Refused answer ↔ NeverExtended numbers lent (capital_form callsign) (capital_form locator) power

-- ---- Basic and extended telemetry

-- One of the two holds, and not both.
abbrev pub ExactlyOne : Type 0 → Type 0 → Type 0
ExactlyOne A B = (A × (B → ⊥)) ⊎ ((A → ⊥) × B)

-- Of a message that passes 1, 2, 3 and 10, with one reading a field, exactly one holds: that basic reading refuses it 11, or that extended
-- reading, which gave this answer, refuses it 20, whatever the table's numbers.
abbrev pub OneKind : Result Header Refusal → List ℤ → ℕ → List ℕ → List ℕ → ℕ → Type 0
OneKind answer numbers lent callsign locator power =
    one_each (length numbers) lent ≡ true → (p : Payload) → payload_read extended_first callsign locator power ≡ Ok p
    → ExactlyOne (telemetry_read callsign locator power ≡ Err Refusal.ExtendedTelemetry)
    (answer ≡ Err Refusal.NotExtended)
