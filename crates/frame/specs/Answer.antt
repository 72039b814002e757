-- What writing and strictly reading a frame answer, for every input, what the lent buffers then hold, and the result numbers of an answer.
use Rattle.std.specs.Prelude.{ℕ, ◌^◌, Bool, cond, not, List, eqb, leb, ltb, length, Result, Ok, Err}
use Rattle.basics.specs.Lists.{first_failing, same_list}
use Rattle.refusal.specs.Refusals.{RefusalNumbers, success, numbers_of}
use Rattle.refusal.specs.declared.Refusal.{Refusal}
use Rattle.message.specs.Answer.{message_packed, word_unpacked, callsign_after_unpack, locator_after_unpack}
use Rattle.message.specs.Word.{word_of}
use Rattle.convolution.specs.Decoding.{decoded_word}
use Rattle.frame.specs.Symbols.{synced, frame_of, received_bits}

-- ---- Writing: "frame writing 1, then 2, 3 or 4 by what it is given"

-- From a word: "a frame may be written from any 50-bit word".
unfoldable pub word_written : List ℕ → ℕ → Result (Unit {0}) Refusal
word_written frame word =
    cond (not (eqb (length frame) 162)) (Err Refusal.WrongLength)
    (cond (leb (2 ^ 50) word) (Err Refusal.WordTooLarge) (Ok tt))

-- A message that has a word is written; one that is refused there is refused here.
unfoldable pub written_as : Result ℕ Refusal → Result (Unit {0}) Refusal
written_as (Ok w) = Ok tt
written_as (Err f) = Err f

-- From a message: 1 for any of the three buffers, then 2, 3.
unfoldable pub message_written : List ℕ → List ℕ → ℕ → List ℕ → Result (Unit {0}) Refusal
message_written callsign locator power frame =
    cond (not (eqb (length frame) 162)) (Err Refusal.WrongLength) (written_as (message_packed callsign locator power))

-- What the lent frame holds after the answer: what it held where that is a refusal, else the symbols.
unfoldable pub frame_after : Result (Unit {0}) Refusal → List ℕ → List ℕ → List ℕ
frame_after (Ok tt) before symbols = symbols
frame_after (Err f) before symbols = before

unfoldable pub frame_after_word : List ℕ → ℕ → List ℕ
frame_after_word frame word = frame_after (word_written frame word) frame (frame_of word)

unfoldable pub frame_after_message : List ℕ → List ℕ → ℕ → List ℕ → List ℕ
frame_after_message callsign locator power frame =
    frame_after (message_written callsign locator power frame) frame (frame_of (word_of callsign locator power))

-- ---- Strict reading to the word: "strict frame 1, 7, 8, 9"

-- "a symbol is above 3": the first such.
abbrev pub is_symbol : ℕ → ℕ → Bool
is_symbol place symbol = leb symbol 3

unfoldable pub first_large : List ℕ → ℕ
first_large frame = first_failing is_symbol 0 frame

-- "a sync bit is wrong": the first such.
unfoldable pub first_wrong_sync : List ℕ → ℕ
first_wrong_sync frame = first_failing synced 0 frame

-- "no 50-bit word has this frame": only one word may have it, the one that its data bits determine. That 9 is given exactly where no word
-- has the frame is `NoWordRefused` (RoundTrip.antt), which `read_word` promises; so the decoding needs no belief.
unfoldable pub word_of_data : List ℕ → Result ℕ Refusal
word_of_data frame =
    let word = decoded_word (received_bits frame) in
    cond (same_list (frame_of word) frame) (Ok word) (Err Refusal.NoWord)

unfoldable pub word_read : List ℕ → Result ℕ Refusal
word_read frame =
    cond (not (eqb (length frame) 162)) (Err Refusal.WrongLength)
    (cond (ltb (first_large frame) 162) (Err (Refusal.SymbolTooLarge (first_large frame)))
    (cond (ltb (first_wrong_sync frame) 162) (Err (Refusal.WrongSync (first_wrong_sync frame)))
    (word_of_data frame)))

-- ---- Strict reading to the message: "it goes on only if the frame gave a word, and the first refusal is the one returned"

-- The answer, and what the lent callsign and locator then hold, given the answer to the word.
unfoldable pub message_if_word : Result ℕ Refusal → List ℕ → List ℕ → Result ℕ Refusal
message_if_word (Ok w) callsign locator = word_unpacked callsign locator w
message_if_word (Err f) callsign locator = Err f

unfoldable pub callsign_if_word : Result ℕ Refusal → List ℕ → List ℕ → List ℕ
callsign_if_word (Ok w) callsign locator = callsign_after_unpack callsign locator w
callsign_if_word (Err f) callsign locator = callsign

unfoldable pub locator_if_word : Result ℕ Refusal → List ℕ → List ℕ → List ℕ
locator_if_word (Ok w) callsign locator = locator_after_unpack callsign locator w
locator_if_word (Err f) callsign locator = locator

unfoldable pub message_read : List ℕ → List ℕ → List ℕ → Result ℕ Refusal
message_read frame callsign locator = message_if_word (word_read frame) callsign locator

unfoldable pub callsign_after_read : List ℕ → List ℕ → List ℕ → List ℕ
callsign_after_read frame callsign locator = callsign_if_word (word_read frame) callsign locator

unfoldable pub locator_after_read : List ℕ → List ℕ → List ℕ → List ℕ
locator_after_read frame callsign locator = locator_if_word (word_read frame) callsign locator

-- ---- The result numbers of writing: 0 where nothing is refused. Those of reading are `word_numbers` and `message_numbers` of the message.

-- Refusal number and place
unfoldable pub write_numbers : Result (Unit {0}) Refusal → RefusalNumbers
write_numbers (Ok tt) = success
write_numbers (Err f) = numbers_of f
