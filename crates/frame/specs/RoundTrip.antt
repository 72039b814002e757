-- What writing and strictly reading a frame promise of each other (demand 2; 02, L4): the round trips, and that each reader refuses exactly
-- the frames that its matching writer never makes.
use Rattle.std.specs.Prelude.{ℕ, ◌<◌, ◌%◌, ◌^◌, ◌≡◌, ◌↔◌, List, length, get_or, Result, Ok, Err}
use Rattle.refusal.specs.declared.Refusal.{Refusal}
use Rattle.refusal.specs.Refusals.{no_word, Refused}
use Rattle.message.specs.Character.{capital_form}
use Rattle.message.specs.Answer.{word_numbers}
use Rattle.frame.specs.Symbols.{sync_at, frame_of, RightSymbols}
use Rattle.frame.specs.Answer.{word_written, message_written, frame_after_word, frame_after_message, word_read, message_read, callsign_after_read, locator_after_read}

-- ---- A word and its frame

-- The frame reads as this word, and is no other's.
pub record ReadsAsWord (frame : List ℕ) (word : ℕ) : Type 0 where
  pub its_word : word_read frame ≡ Ok word
  pub no_other : (other : ℕ) → other < 2 ^ 50 → frame_of other ≡ frame → other ≡ word

-- What was written reads back.
abbrev pub WordReadsBack : Result (Unit {0}) Refusal → ℕ → List ℕ → Type 0
WordReadsBack (Ok tt) word frame = ReadsAsWord frame word
WordReadsBack (Err f) word frame = Unit

-- Writing from this word makes this frame, over any lent frame of 162 bytes.
abbrev pub WordWritesAs : ℕ → List ℕ → Type 0
WordWritesAs word frame =
    (before : List ℕ) → length before ≡ 162 → (word_written before word ≡ Ok tt) × (frame_after_word before word ≡ frame)

-- What was read writes back.
abbrev pub WordWritesBack : Result ℕ Refusal → List ℕ → Type 0
WordWritesBack (Ok w) frame = WordWritesAs w frame
WordWritesBack (Err f) frame = Unit

-- Writing from a word never makes this frame.
abbrev pub NeverFromWord : List ℕ → Type 0
NeverFromWord frame = (before : List ℕ) (word : ℕ) → word_written before word ≡ Ok tt → frame_after_word before word ≡ frame → ⊥

-- The answer is a refusal exactly where writing from a word never makes the frame.
abbrev pub WordRefusedExactly : Result ℕ Refusal → List ℕ → Type 0
WordRefusedExactly answer frame = Refused answer ↔ NeverFromWord frame

-- The frame has 162 symbols of 0 to 3 with the right sync bits.
pub record RightForm (frame : List ℕ) : Type 0 where
  pub right_symbols : RightSymbols frame
  pub right_sync : (place : ℕ) → place < 162 → get_or frame place 0 % 2 ≡ sync_at place

-- "no 50-bit word has this frame"
abbrev pub NoWord : List ℕ → Type 0
NoWord frame = (word : ℕ) → word < 2 ^ 50 → frame_of word ≡ frame → ⊥

-- Refusal 9 is given exactly where the form is right, so that 1, 7 and 8 do not apply, and no word has the frame.
abbrev pub NoWordRefused : Result ℕ Refusal → List ℕ → Type 0
NoWordRefused answer frame = ((word_numbers answer).number ≡ no_word) ↔ (RightForm frame × NoWord frame)

-- ---- A message and its frame

-- The frame reads as this message, into any lent callsign of six bytes and locator of four.
abbrev pub ReadsAsMessage : List ℕ → List ℕ → List ℕ → ℕ → Type 0
ReadsAsMessage frame callsign locator power =
    (c l : List ℕ) → length c ≡ 6 → length l ≡ 4
    → (message_read frame c l ≡ Ok power) × ((callsign_after_read frame c l ≡ callsign) × (locator_after_read frame c l ≡ locator))

-- What was written reads back as its capital form.
abbrev pub MessageReadsBack : Result (Unit {0}) Refusal → List ℕ → List ℕ → ℕ → List ℕ → Type 0
MessageReadsBack (Ok tt) callsign locator power frame = ReadsAsMessage frame (capital_form callsign) (capital_form locator) power
MessageReadsBack (Err f) callsign locator power frame = Unit

-- Writing from a message makes this frame, over any lent frame of 162 bytes.
abbrev pub MessageWritesAs : List ℕ → List ℕ → ℕ → List ℕ → Type 0
MessageWritesAs callsign locator power frame =
    (before : List ℕ) → length before ≡ 162
    → (message_written callsign locator power before ≡ Ok tt) × (frame_after_message callsign locator power before ≡ frame)

-- What was read writes back.
abbrev pub MessageWritesBack : Result ℕ Refusal → List ℕ → List ℕ → List ℕ → Type 0
MessageWritesBack (Ok p) frame callsign locator = MessageWritesAs callsign locator p frame
MessageWritesBack (Err f) frame callsign locator = Unit

-- Writing from a message never makes this frame.
abbrev pub NeverFromMessage : List ℕ → Type 0
NeverFromMessage frame =
    (callsign locator : List ℕ) (power : ℕ) (before : List ℕ) → message_written callsign locator power before ≡ Ok tt
    → frame_after_message callsign locator power before ≡ frame → ⊥

-- With a callsign of six bytes and a locator of four lent, the answer is a refusal exactly where writing from a message never makes the
-- frame.
abbrev pub MessageRefusedExactly : Result ℕ Refusal → List ℕ → List ℕ → List ℕ → Type 0
MessageRefusedExactly answer frame callsign locator =
    length callsign ≡ 6 → length locator ≡ 4 → (Refused answer ↔ NeverFromMessage frame)
