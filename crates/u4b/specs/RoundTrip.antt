-- What writing and reading a payload promise of each other (demand 2; 02, L4): the round trips, and that the reader refuses exactly the
-- messages whose capital form the writer never makes.
use Rattle.std.specs.Prelude.{ℕ, ◌%◌, ◌≡◌, ◌↔◌, List, Result, Ok, Err}
use Rattle.radix.specs.Numeral.{count}
use Rattle.message.specs.Character.{capital_form}
use Rattle.refusal.specs.declared.Refusal.{Refusal}
use Rattle.refusal.specs.Refusals.{Refused}
use Rattle.u4b.specs.Characters.{upper_radices, lower_radices}
use Rattle.u4b.specs.Answer.{payload_message, payload_callsign, payload_locator, payload_read}
use Rattle.u4b.specs.declared.channel.FirstCharacters.{FirstCharacters}
use Rattle.u4b.specs.declared.Payload.{Payload}

-- What is written of a payload: each number modulo its count, 632,736 and 615,600 (`upper_count`, `lower_count`).
unfoldable pub written_part : Payload → Payload
written_part payload = record {
  channel = payload.channel;
  upper = payload.upper % count upper_radices;
  lower = payload.lower % count lower_radices;
}

-- This message is written from the payload.
pub record PayloadWritesAs (taken : FirstCharacters) (payload : Payload) (callsign locator : List ℕ) (power : ℕ) : Type 0 where
  pub its_power : payload_message taken payload ≡ Ok power
  pub its_callsign : payload_callsign payload ≡ callsign
  pub its_locator : payload_locator payload ≡ locator

-- What was written reads back: the callsign and locator with the answer's power, where it has one.
abbrev pub PayloadReadsBack : Result ℕ Refusal → FirstCharacters → Payload → List ℕ → List ℕ → Type 0
PayloadReadsBack (Ok p) taken payload callsign locator =
    payload_read taken callsign locator p ≡ Ok (written_part payload)
PayloadReadsBack (Err f) taken payload callsign locator = Unit

-- What was read writes the capital form back: the answer's payload, where it has one, writes the message in capitals.
abbrev pub PayloadWritesBack : Result Payload Refusal → FirstCharacters → List ℕ → List ℕ → ℕ → Type 0
PayloadWritesBack (Ok p) taken callsign locator power =
    PayloadWritesAs taken p (capital_form callsign) (capital_form locator) power
PayloadWritesBack (Err f) taken callsign locator power = Unit

-- No payload writes this message. Characters that are no bytes are never taken, and a number that is no u64 writes what its part below the
-- end writes, so that nothing is added by naming them here.
abbrev pub NeverFromPayload : FirstCharacters → List ℕ → List ℕ → ℕ → Type 0
NeverFromPayload taken callsign locator power = (payload : Payload) → PayloadWritesAs taken payload callsign locator power → ⊥

-- The answer is a refusal exactly where no payload writes the message's capital form.
abbrev pub PayloadRefusedExactly : Result Payload Refusal → FirstCharacters → List ℕ → List ℕ → ℕ → Type 0
PayloadRefusedExactly answer taken callsign locator power =
    Refused answer ↔ NeverFromPayload taken (capital_form callsign) (capital_form locator) power
