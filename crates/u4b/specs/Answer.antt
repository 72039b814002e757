-- What writing the channel and the two numbers into a message and reading them answer, for every input, what the lent buffers then hold,
-- and the result numbers of an answer.
use Rattle.std.specs.Prelude.{ℕ, false, cond, not, List, ltb, length, Result, Ok, Err}
use Rattle.refusal.specs.Refusals.{refusal_number, refusal_place}
use Rattle.message.specs.Answer.{right_lengths, message_checked, content_after}
use Rattle.refusal.specs.declared.Refusal.{Refusal}
use Rattle.u4b.specs.Channel.{is_first_character, is_third_character, channel_of, no_channel}
use Rattle.u4b.specs.Alphabet.{first_not_taken}
use Rattle.u4b.specs.Characters.{callsign_with, upper_of, locator_with, power_with, lower_of}
use Rattle.u4b.specs.declared.channel.FirstCharacters.{FirstCharacters}
use Rattle.u4b.specs.declared.alphabet.Alphabet.{Alphabet}
use Rattle.u4b.specs.declared.Payload.{Payload}

-- ---- Writing: "telemetry writing 1, 14"

-- The power of the message, or why nothing is written. 14: "0 first character, 1 third"
unfoldable pub payload_message : FirstCharacters → Payload → Result ℕ Refusal
payload_message taken payload =
    cond (not (is_first_character taken payload.channel.first)) (Err (Refusal.OutOfRange 0))
    (cond (not (is_third_character payload.channel.third)) (Err (Refusal.OutOfRange 1))
    (Ok (power_with payload.lower)))

-- The callsign of the message.
unfoldable pub payload_callsign : Payload → List ℕ
payload_callsign payload = callsign_with payload.channel payload.upper

-- The locator of the message.
unfoldable pub payload_locator : Payload → List ℕ
payload_locator payload = locator_with payload.lower

-- The answer, given what the lent callsign and locator hold.
unfoldable pub payload_written : FirstCharacters → List ℕ → List ℕ → Payload → Result ℕ Refusal
payload_written taken callsign locator payload =
    cond (not (right_lengths (length callsign) (length locator))) (Err Refusal.WrongLength) (payload_message taken payload)

-- What the lent callsign then holds.
unfoldable pub callsign_after_payload : FirstCharacters → List ℕ → List ℕ → Payload → List ℕ
callsign_after_payload taken callsign locator payload =
    content_after (payload_written taken callsign locator payload) callsign (payload_callsign payload)

-- What the lent locator then holds.
unfoldable pub locator_after_payload : FirstCharacters → List ℕ → List ℕ → Payload → List ℕ
locator_after_payload taken callsign locator payload =
    content_after (payload_written taken callsign locator payload) locator (payload_locator payload)

-- ---- Reading: "telemetry reading 1, 2, 3, 10, .."

-- The channel and the two numbers of a message.
unfoldable pub payload_of : List ℕ → List ℕ → ℕ → Payload
payload_of callsign locator power = record {
  channel = channel_of callsign;
  upper = upper_of callsign;
  lower = lower_of locator power;
}

-- In places 3 to 5 the numbers stand in letters alone.
abbrev pub payload_alphabet : FirstCharacters → Alphabet
payload_alphabet taken = record { taken = taken; last_space = false }

-- 10: "first character isn't 0, 1, Q, or a space in places 3 to 5"
unfoldable pub message_payload : FirstCharacters → List ℕ → List ℕ → ℕ → Result Payload Refusal
message_payload taken callsign locator power =
    let place = first_not_taken (payload_alphabet taken) callsign in
    cond (ltb place 6) (Err (Refusal.NotTelemetry place)) (Ok (payload_of callsign locator power))

-- 1, 2 and 3 are those of any message: the answer where it is legal, else its refusal.
unfoldable pub payload_if_legal : Result (Unit {0}) Refusal → Result Payload Refusal → Result Payload Refusal
payload_if_legal (Ok tt) answer = answer
payload_if_legal (Err f) answer = Err f

unfoldable pub payload_read : FirstCharacters → List ℕ → List ℕ → ℕ → Result Payload Refusal
payload_read taken callsign locator power = payload_if_legal (message_checked callsign locator power) (message_payload taken callsign locator power)

-- ---- The result numbers of an answer: 0 where it has none

-- Refusal number, place, and the payload
pub record PayloadNumbers : Type 0 where
  pub number : ℕ
  pub place : ℕ
  pub payload : Payload

unfoldable pub no_payload : Payload
no_payload = record { channel = no_channel; upper = 0; lower = 0 }

unfoldable pub payload_numbers : Result Payload Refusal → PayloadNumbers
payload_numbers (Ok p) = record { number = 0; place = 0; payload = p }
payload_numbers (Err f) = record { number = refusal_number f; place = refusal_place f; payload = no_payload }
