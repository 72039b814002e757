-- What packing and unpacking promise of each other (demand 2; 02, L4): the round trips, over capital forms, that only capitals are
-- written, and that the reader refuses exactly the words that the writer never makes.
use Rattle.std.specs.Prelude.{ℕ, ◌^◌, ◌<◌, ◌≡◌, ◌↔◌, List, length, Result, Ok, Err}
use Rattle.message.specs.Character.{capital_form}
use Rattle.message.specs.Answer.{message_packed, word_message}
use Rattle.message.specs.Word.{callsign_of, locator_of}
use Rattle.refusal.specs.declared.Refusal.{Refusal}
use Rattle.refusal.specs.Refusals.{Refused}

-- The word reads as this message.
pub record UnpacksAs (word : ℕ) (callsign locator : List ℕ) (power : ℕ) : Type 0 where
  pub in_50_bits : word < 2 ^ 50
  pub its_power : word_message word ≡ Ok power
  pub its_callsign : callsign_of word ≡ callsign
  pub its_locator : locator_of word ≡ locator

-- What was packed reads back as its capital form: the answer's word, where it has one, reads as the message in capitals.
abbrev pub UnpacksBack : Result ℕ Refusal → List ℕ → List ℕ → ℕ → Type 0
UnpacksBack (Ok w) callsign locator power = UnpacksAs w (capital_form callsign) (capital_form locator) power
UnpacksBack (Err f) callsign locator power = Unit

-- What was read packs back: the callsign and locator with the answer's power, where it has one, have the word.
abbrev pub PacksBack : Result ℕ Refusal → ℕ → List ℕ → List ℕ → Type 0
PacksBack (Ok p) word callsign locator = message_packed callsign locator p ≡ Ok word
PacksBack (Err f) word callsign locator = Unit

-- "readers write capitals only": where the answer has a power, the callsign and the locator that were written are their own capital forms.
-- The writers of telemetry promise it too: their answers are of this kind.
abbrev pub WrittenInCapitals : Result ℕ Refusal → List ℕ → List ℕ → Type 0
WrittenInCapitals (Ok p) callsign locator = (capital_form callsign ≡ callsign) × (capital_form locator ≡ locator)
WrittenInCapitals (Err f) callsign locator = Unit

-- No message has this word. Lists of numbers that are no bytes and powers that are no u32 are never legal, so that nothing is added by
-- naming them here.
abbrev pub NeverPacked : ℕ → Type 0
NeverPacked word = (callsign locator : List ℕ) (power : ℕ) → message_packed callsign locator power ≡ Ok word → ⊥

-- With a callsign of six bytes and a locator of four lent, the answer is a refusal exactly where no message has the word.
abbrev pub UnpackRefusedExactly : Result ℕ Refusal → ℕ → List ℕ → List ℕ → Type 0
UnpackRefusedExactly answer word callsign locator = length callsign ≡ 6 → length locator ≡ 4 → (Refused answer ↔ NeverPacked word)
