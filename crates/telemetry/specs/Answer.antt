-- What writing and reading telemetry answer, for every input, what the lent buffers then hold, and the result numbers of each answer.
use Rattle.std.specs.Prelude.{ℕ, ◌%◌, cond, not, List, eqb, leb, ltb, pos, length, Result, Ok, Err}
use Rattle.refusal.specs.Refusals.{refusal_number, refusal_place}
use Rattle.message.specs.Word.{callsign_of, locator_of}
use Rattle.message.specs.Answer.{right_lengths, word_message, content_after}
use Rattle.refusal.specs.declared.Refusal.{Refusal}
use Rattle.u4b.specs.Channel.{no_channel, no_sub_square}
use Rattle.u4b.specs.Answer.{payload_message, payload_callsign, payload_locator, payload_read}
use Rattle.u4b.specs.declared.channel.FirstCharacters.{FirstCharacters}
use Rattle.u4b.specs.declared.Payload.{Payload}
use Rattle.telemetry.specs.Ranges.{first_out_of_range}
use Rattle.telemetry.specs.Payload.{basic_bit, payload_from, reading_of}
use Rattle.telemetry.specs.declared.Measured.{Measured}
use Rattle.telemetry.specs.declared.Reading.{Reading}

-- "First character 0, 1 or Q"
abbrev pub basic_first : FirstCharacters
basic_first = FirstCharacters.ZeroOneQ

-- ---- Writing: "telemetry writing 1, 14"

-- The power of the message, or why nothing is written. "a reading outside its range is refused"
unfoldable pub measured_message : Measured → Result ℕ Refusal
measured_message m =
    let bad = first_out_of_range basic_first m in
    cond (ltb bad 9) (Err (Refusal.OutOfRange bad)) (payload_message basic_first (payload_from basic_bit m))

-- The callsign of the message.
unfoldable pub measured_callsign : Measured → List ℕ
measured_callsign m = payload_callsign (payload_from basic_bit m)

-- The locator of the message.
unfoldable pub measured_locator : Measured → List ℕ
measured_locator m = payload_locator (payload_from basic_bit m)

-- The answer, given what the lent callsign and locator hold.
unfoldable pub telemetry_written : List ℕ → List ℕ → Measured → Result ℕ Refusal
telemetry_written callsign locator m =
    cond (not (right_lengths (length callsign) (length locator))) (Err Refusal.WrongLength) (measured_message m)

-- What the lent callsign then holds.
unfoldable pub callsign_after_telemetry : List ℕ → List ℕ → Measured → List ℕ
callsign_after_telemetry callsign locator m = content_after (telemetry_written callsign locator m) callsign (measured_callsign m)

-- What the lent locator then holds.
unfoldable pub locator_after_telemetry : List ℕ → List ℕ → Measured → List ℕ
locator_after_telemetry callsign locator m = content_after (telemetry_written callsign locator m) locator (measured_locator m)

-- ---- Reading: "telemetry reading 1, 2, 3, 10, 11, 12, 13"

-- The readings in the two numbers A and B, or why they hold none: 12, "A is 615,168 or more", and 13, "B is 604,800 or more".
unfoldable pub payload_telemetry : Payload → Result Reading Refusal
payload_telemetry p =
    cond (leb 615_168 p.upper) (Err Refusal.BadPositionNumber)
    (cond (leb 604_800 p.lower) (Err Refusal.BadSensorNumber)
    (Ok (reading_of p)))

-- "B is even: extended, not basic"
unfoldable pub basic_telemetry : Payload → Result Reading Refusal
basic_telemetry p =
    cond (not (eqb (p.lower % 2) basic_bit)) (Err Refusal.ExtendedTelemetry) (payload_telemetry p)

-- 1, 2, 3 and 10 are those of reading the channel and the two numbers.
unfoldable pub telemetry_if_payload : Result Payload Refusal → Result Reading Refusal
telemetry_if_payload (Ok p) = basic_telemetry p
telemetry_if_payload (Err f) = Err f

unfoldable pub telemetry_read : List ℕ → List ℕ → ℕ → Result Reading Refusal
telemetry_read callsign locator power = telemetry_if_payload (payload_read basic_first callsign locator power)

-- ---- The telemetry of a word: the word is unpacked, and its message read

-- 4, 5 and 6 are those of unpacking the word.
unfoldable pub telemetry_if_message : Result ℕ Refusal → ℕ → Result Reading Refusal
telemetry_if_message (Ok power) word = telemetry_read (callsign_of word) (locator_of word) power
telemetry_if_message (Err f) word = Err f

unfoldable pub word_telemetry : ℕ → Result Reading Refusal
word_telemetry word = telemetry_if_message (word_message word) word

-- ---- The result numbers of an answer: 0 where it has none

-- Refusal number, place, and the readings
pub record TelemetryNumbers : Type 0 where
  pub number : ℕ
  pub place : ℕ
  pub reading : Reading

unfoldable pub no_reading : Reading
no_reading = record {
  channel = no_channel;
  square = no_sub_square;
  sensors = record { altitude = 0; temperature = pos 0; voltage = 0; speed = 0; gps = 0 };
}

unfoldable pub telemetry_numbers : Result Reading Refusal → TelemetryNumbers
telemetry_numbers (Ok r) = record { number = 0; place = 0; reading = r }
telemetry_numbers (Err f) = record { number = refusal_number f; place = refusal_place f; reading = no_reading }
