-- What writing and reading extended telemetry answer, for every input, what the lent buffers then hold, and the result numbers of an answer.
use Rattle.std.specs.Prelude.{ℕ, ◌*◌, Bool, cond, not, ◌&&◌, List, eqb, leb, ℤ, length, Result, Ok, Err}
use Rattle.refusal.specs.Refusals.{refusal_number, refusal_place}
use Rattle.message.specs.Answer.{right_lengths, content_after}
use Rattle.refusal.specs.declared.Refusal.{Refusal}
use Rattle.u4b.specs.Channel.{is_first_character, is_third_character, no_channel}
use Rattle.u4b.specs.Answer.{payload_message, payload_callsign, payload_locator, payload_of, payload_read}
use Rattle.u4b.specs.declared.channel.FirstCharacters.{FirstCharacters}
use Rattle.u4b.specs.declared.Payload.{Payload}
use Rattle.extended.specs.Fields.{fields_of, legal_table, codes_of, field_readings}
use Rattle.extended.specs.Number.{extended_payload, payload_number, reserved_in, telemetry_type_in, header_in, codes_in, left_over}
use Rattle.extended.specs.declared.field.Field.{Field}
use Rattle.extended.specs.declared.Header.{Header}

-- A channel is named as in basic telemetry.
abbrev pub extended_first : FirstCharacters
extended_first = FirstCharacters.ZeroOneQ

-- "one reading a field, both ways": three numbers of the table for each.
unfoldable pub one_each : (numbers readings : ℕ) → Bool
one_each numbers readings = eqb numbers (3 * readings)

-- ---- Writing: "writing checks 1 .., 14 (channel only), 19, 22"

-- 22: "slot above 4 or type above 15 on writing"
unfoldable pub legal_slot_and_type : Header → Bool
legal_slot_and_type h = leb h.slot 4 && leb h.kind 15

-- The power of the message, or why nothing is written.
unfoldable pub extended_message : Header → List Field → List ℤ → Result ℕ Refusal
extended_message h fs readings =
    cond (not (is_first_character extended_first h.channel.first)) (Err (Refusal.OutOfRange 0))
    (cond (not (is_third_character h.channel.third)) (Err (Refusal.OutOfRange 1))
    (cond (not (legal_table fs)) (Err Refusal.BadFieldTable)
    (cond (not (legal_slot_and_type h)) (Err Refusal.BadSlotOrType)
    (payload_message extended_first (extended_payload h fs (codes_of fs readings))))))

-- The callsign of the message.
unfoldable pub extended_callsign : Header → List Field → List ℤ → List ℕ
extended_callsign h fs readings = payload_callsign (extended_payload h fs (codes_of fs readings))

-- The locator of the message.
unfoldable pub extended_locator : Header → List Field → List ℤ → List ℕ
extended_locator h fs readings = payload_locator (extended_payload h fs (codes_of fs readings))

-- The answer, given what the lent callsign and locator hold and the table's numbers.
unfoldable pub extended_written : List ℕ → List ℕ → Header → List ℤ → List ℤ → Result ℕ Refusal
extended_written callsign locator h numbers readings =
    cond (not (one_each (length numbers) (length readings))) (Err Refusal.WrongLength)
    (cond (not (right_lengths (length callsign) (length locator))) (Err Refusal.WrongLength)
    (extended_message h (fields_of numbers) readings))

-- What the lent callsign then holds.
unfoldable pub callsign_after_extended : List ℕ → List ℕ → Header → List ℤ → List ℤ → List ℕ
callsign_after_extended callsign locator h numbers readings =
    content_after (extended_written callsign locator h numbers readings) callsign (extended_callsign h (fields_of numbers) readings)

-- What the lent locator then holds.
unfoldable pub locator_after_extended : List ℕ → List ℕ → Header → List ℤ → List ℤ → List ℕ
locator_after_extended callsign locator h numbers readings =
    content_after (extended_written callsign locator h numbers readings) locator (extended_locator h (fields_of numbers) readings)

-- ---- Reading: "reading checks 1, 2, 3, 10, 20, 19, 21, 23"

-- What the number says beside its readings, or why it says nothing: 20, "basic and not extended", 19, "field table bad", 21, "reserved not
-- 0", and 23, "number left over above the fields".
unfoldable pub payload_extended : List Field → Payload → Result Header Refusal
payload_extended fs p =
    let n = payload_number p in
    cond (not (eqb (telemetry_type_in n) 0)) (Err Refusal.NotExtended)
    (cond (not (legal_table fs)) (Err Refusal.BadFieldTable)
    (cond (not (eqb (reserved_in n) 0)) (Err Refusal.ReservedNotZero)
    (cond (not (eqb (left_over fs n) 0)) (Err Refusal.NumberLeftOver)
    (Ok (header_in p)))))

-- 1 of callsign and locator, 2, 3 and 10 are those of reading the channel and the two numbers.
unfoldable pub extended_if_payload : List Field → Result Payload Refusal → Result Header Refusal
extended_if_payload fs (Ok p) = payload_extended fs p
extended_if_payload fs (Err f) = Err f

-- The answer where so many readings are lent.
unfoldable pub extended_read : List ℕ → List ℕ → ℕ → List ℤ → ℕ → Result Header Refusal
extended_read callsign locator power numbers readings =
    cond (not (one_each (length numbers) readings)) (Err Refusal.WrongLength)
    (extended_if_payload (fields_of numbers) (payload_read extended_first callsign locator power))

-- The readings in a message.
unfoldable pub readings_in : List ℕ → List ℕ → ℕ → List ℤ → List ℤ
readings_in callsign locator power numbers =
    let fs = fields_of numbers in
    field_readings fs (codes_in fs (payload_number (payload_of callsign locator power)))

-- What lent readings hold after an answer: those of the message, or what they held.
unfoldable pub readings_after : Result Header Refusal → List ℤ → List ℤ → List ℤ
readings_after (Ok h) before readings = readings
readings_after (Err f) before readings = before

-- What the lent readings then hold.
unfoldable pub readings_after_read : List ℕ → List ℕ → ℕ → List ℤ → List ℤ → List ℤ
readings_after_read callsign locator power numbers readings =
    readings_after (extended_read callsign locator power numbers (length readings)) readings (readings_in callsign locator power numbers)

-- ---- The result numbers of an answer: 0 where it has none

-- Refusal number, place, and what is said beside the readings
pub record ExtendedNumbers : Type 0 where
  pub number : ℕ
  pub place : ℕ
  pub header : Header

unfoldable pub no_header : Header
no_header = record { channel = no_channel; slot = 0; kind = 0 }

unfoldable pub extended_numbers : Result Header Refusal → ExtendedNumbers
extended_numbers (Ok h) = record { number = 0; place = 0; header = h }
extended_numbers (Err f) = record { number = refusal_number f; place = refusal_place f; header = no_header }
