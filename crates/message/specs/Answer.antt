-- What packing a message and unpacking a word answer, for every input, and the result numbers of each answer.
use Rattle.std.specs.Prelude.{ℕ, ◌-◌, ◌^◌, Bool, cond, not, ◌&&◌, ◌||◌, List, ◌++◌, eqb, leb, ltb, length, Result, Ok, Err}
use Rattle.refusal.specs.Refusals.{RefusalNumbers, success, numbers_of, refusal_number, refusal_place}
use Rattle.refusal.specs.declared.Refusal.{Refusal}
use Rattle.message.specs.Character.{first_bad}
use Rattle.power.specs.Powers.{legal_power}
use Rattle.message.specs.Word.{word_of, callsign_part, locator_part, power_part, callsign_of, locator_of}

-- The lengths are those of a callsign, 6, and of a locator, 4.
unfoldable pub right_lengths : ℕ → ℕ → Bool
right_lengths callsign locator = eqb callsign 6 && eqb locator 4

-- ---- A message of legal characters and power

-- "If several apply, the order is: triple 1, 2, 3"; "Within one number, the lowest place."
unfoldable pub message_checked : List ℕ → List ℕ → ℕ → Result (Unit {0}) Refusal
message_checked callsign locator power =
    let bad = first_bad 0 (callsign ++ locator) in
    cond (not (right_lengths (length callsign) (length locator))) (Err Refusal.WrongLength)
    (cond (ltb bad 10) (Err (Refusal.BadCharacter bad))
    (cond (not (legal_power power)) (Err Refusal.BadPower) (Ok tt)))

-- What an answer says beside its value: that there is one, or why not.
abbrev pub outcome : {A : Type 0} → Result A Refusal → Result (Unit {0}) Refusal
outcome (Ok a) = Ok tt
outcome (Err f) = Err f

-- ---- From a message to its word

-- The word where the message is legal, else its refusal.
unfoldable pub word_if_legal : Result (Unit {0}) Refusal → ℕ → Result ℕ Refusal
word_if_legal (Ok tt) word = Ok word
word_if_legal (Err f) word = Err f

unfoldable pub message_packed : List ℕ → List ℕ → ℕ → Result ℕ Refusal
message_packed callsign locator power = word_if_legal (message_checked callsign locator power) (word_of callsign locator power)

-- ---- From a word to its message: "word 1 (if a buffer is lent), 4, 5, 6"

-- A word's power, or why the word isn't a message's.
unfoldable pub word_message : ℕ → Result ℕ Refusal
word_message word =
    cond (leb (2 ^ 50) word || leb 262_177_560 (callsign_part word)) (Err Refusal.WordTooLarge)
    (cond (leb 32_400 (locator_part word)) (Err Refusal.BadLocatorNumber)
    (cond (ltb (power_part word) 64 || not (legal_power (power_part word - 64))) (Err Refusal.BadPowerBits)
    (Ok (power_part word - 64))))

-- The answer, given what the lent callsign and locator hold.
unfoldable pub word_unpacked : List ℕ → List ℕ → ℕ → Result ℕ Refusal
word_unpacked callsign locator word = cond (not (right_lengths (length callsign) (length locator))) (Err Refusal.WrongLength) (word_message word)

-- What a lent buffer holds after the answer: what it held where that is a refusal, else the characters.
unfoldable pub content_after : Result ℕ Refusal → List ℕ → List ℕ → List ℕ
content_after (Ok p) before characters = characters
content_after (Err f) before characters = before

-- What the lent callsign then holds.
unfoldable pub callsign_after_unpack : List ℕ → List ℕ → ℕ → List ℕ
callsign_after_unpack callsign locator word = content_after (word_unpacked callsign locator word) callsign (callsign_of word)

-- What the lent locator then holds.
unfoldable pub locator_after_unpack : List ℕ → List ℕ → ℕ → List ℕ
locator_after_unpack callsign locator word = content_after (word_unpacked callsign locator word) locator (locator_of word)

-- ---- The result numbers of each answer: 0 where it has none

-- Refusal number and place
unfoldable pub check_numbers : Result (Unit {0}) Refusal → RefusalNumbers
check_numbers (Ok tt) = success
check_numbers (Err f) = numbers_of f

-- Refusal number, place, word
pub record WordNumbers : Type 0 where
  pub number : ℕ
  pub place : ℕ
  pub word : ℕ

unfoldable pub word_numbers : Result ℕ Refusal → WordNumbers
word_numbers (Ok w) = record { number = 0; place = 0; word = w }
word_numbers (Err f) = record { number = refusal_number f; place = refusal_place f; word = 0 }

-- Refusal number, place, power
pub record MessageNumbers : Type 0 where
  pub number : ℕ
  pub place : ℕ
  pub power : ℕ

unfoldable pub message_numbers : Result ℕ Refusal → MessageNumbers
message_numbers (Ok p) = record { number = 0; place = 0; power = p }
message_numbers (Err f) = record { number = refusal_number f; place = refusal_place f; power = 0 }
