-- The cases of the definitions of the answers, each by what holds there, and what an answer that is no refusal says of its input.
use mathlib.Core.Path.{◌≡◌, refl, sym, ap, ◌∙◌}
use Prim.Native.Nat.{ℕ, ◌^◌, ◌≤◌, ◌<◌}
use native.Mathlib.Omega.{arith}
use mathlib.Core.Bool.{not}
use mathlib.Core.List.{List}
use lib.Dec.{eqb, leb, ltb}
use lib.ListN.{length}
use borrow.Author.Tests.{not-false, le-leb, leb-false, lt-leb, lt-ltb, le-ltb, ltb-false, eq-eqb, ne_eqb, eqb-true}
use Rattle.basics.specs.Lists.{same_list}
use Rattle.std.specs.Prelude.{Result, Ok, Err}
use Rattle.basics.proofs.Choice.{cond_passed, cond_held, by_test}
use Rattle.basics.proofs.ListLaws.{same_list_equal, same_list_itself}
use Rattle.refusal.specs.declared.Refusal.{Refusal}
use Rattle.refusal.specs.Refusals.{no_word, refusals, refusal_from, refusal_place}
use Rattle.refusal.proofs.Laws.{refused_not_ok, from_numbers}
use Rattle.message.specs.Answer.{message_packed, word_numbers}
use Rattle.message.specs.Word.{word_of}
use Rattle.message.proofs.AnswerLaws.{legal_of_packed}
use Rattle.convolution.specs.Code.{coded_bits}
use Rattle.convolution.specs.Decoding.{decoded_word}
use Rattle.convolution.proofs.DecodingLaws.{decoded_word_below}
use Rattle.frame.specs.Symbols.{frame_of, received_bits}
use Rattle.frame.specs.Answer.{word_written, written_as, message_written, frame_after, frame_after_word, frame_after_message, first_large, first_wrong_sync, word_of_data, word_read}
use Rattle.frame.specs.RoundTrip.{RightForm}
use Rattle.frame.proofs.SymbolLaws.{received_frame_of, decoded_frame_of, frame_right_form, frame_by_data, form_of_tests, none_large, none_wrong}

-- ---- The cases of writing from a word

module _ (frame : List ℕ) (word : ℕ) where
  pub written_length : (length frame ≡ 162 → ⊥) → word_written frame word ≡ Err Refusal.WrongLength
  unfolding word_written
  written_length other = rw (ne_eqb _ _ other)

  pub written_large : length frame ≡ 162 → 2 ^ 50 ≤ word → word_written frame word ≡ Err Refusal.WordTooLarge
  unfolding word_written
  written_large e h = rw (eq-eqb _ _ e, le-leb _ _ h)

  pub written_done : length frame ≡ 162 → word < 2 ^ 50 → word_written frame word ≡ Ok tt
  unfolding word_written
  written_done e h = rw (eq-eqb _ _ e, lt-leb _ _ h)

  pub done_of_word : word_written frame word ≡ Ok tt → (length frame ≡ 162) × (word < 2 ^ 50)
  unfolding word_written
  done_of_word e =
      let lengths = cond_passed (not (eqb (length frame) 162)) e (refused_not_ok _ tt) in
      let large = cond_passed (leb (2 ^ 50) word) lengths.1 (refused_not_ok _ tt) in
      (eqb-true _ _ (not-false _ lengths.0), leb-false _ _ large.0)

  pub after_word_done : word_written frame word ≡ Ok tt → frame_after_word frame word ≡ frame_of word
  unfolding frame_after_word frame_after
  after_word_done e = rw e

-- ---- The cases of writing from a message

module _ (callsign locator : List ℕ) (power : ℕ) (frame : List ℕ) where
  pub message_length : (length frame ≡ 162 → ⊥) → message_written callsign locator power frame ≡ Err Refusal.WrongLength
  unfolding message_written
  message_length other = rw (ne_eqb _ _ other)

  packed_message : length frame ≡ 162 → message_written callsign locator power frame ≡ written_as (message_packed callsign locator power)
  unfolding message_written
  packed_message e = rw (eq-eqb _ _ e)

  -- A message that is packed is written, and its word's frame is what the lent frame then holds.
  pub message_done : (word : ℕ) → length frame ≡ 162 → message_packed callsign locator power ≡ Ok word
      → (message_written callsign locator power frame ≡ Ok tt) × (frame_after_message callsign locator power frame ≡ frame_of word)
  unfolding written_as frame_after_message frame_after
  message_done word right made =
      let done : message_written callsign locator power frame ≡ Ok tt = packed_message right ∙ ap written_as made in
      (done, rw (done, (legal_of_packed callsign locator power word made).1))

  pub message_refused : (f : Refusal) → length frame ≡ 162 → message_packed callsign locator power ≡ Err f
      → message_written callsign locator power frame ≡ Err f
  unfolding written_as
  message_refused f right refused = packed_message right ∙ ap written_as refused

  pub done_of_message : message_written callsign locator power frame ≡ Ok tt
      → (length frame ≡ 162) × (message_packed callsign locator power ≡ Ok (word_of callsign locator power))
  unfolding message_written written_as
  done_of_message e =
      let lengths = cond_passed (not (eqb (length frame) 162)) e (refused_not_ok _ tt) in
      (eqb-true _ _ (not-false _ lengths.0), its_word (message_packed callsign locator power) refl lengths.1)
    where
      its_word : (answer : Result ℕ Refusal) → message_packed callsign locator power ≡ answer → written_as answer ≡ Ok tt
          → message_packed callsign locator power ≡ Ok (word_of callsign locator power)
      its_word (Ok w) p done = p ∙ ap Ok (legal_of_packed callsign locator power w p).1
      its_word (Err f) p done = absurd (refused_not_ok f tt done)

  pub after_message_done : message_written callsign locator power frame ≡ Ok tt
      → frame_after_message callsign locator power frame ≡ frame_of (word_of callsign locator power)
  unfolding frame_after_message frame_after
  after_message_done e = rw e

-- ---- The cases of strict reading to the word

module _ (frame : List ℕ) where
  pub read_length : (length frame ≡ 162 → ⊥) → word_read frame ≡ Err Refusal.WrongLength
  unfolding word_read
  read_length other = rw (ne_eqb _ _ other)

  module _ (right : length frame ≡ 162) where
    pub read_large : (large : ℕ) → large ≡ first_large frame → large < 162 → word_read frame ≡ Err (Refusal.SymbolTooLarge large)
    unfolding word_read
    read_large large e h = rw (eq-eqb _ _ right, ← e, lt-ltb _ _ h)

    module _ (small : 162 ≤ first_large frame) where
      pub read_sync : (wrong : ℕ) → wrong ≡ first_wrong_sync frame → wrong < 162 → word_read frame ≡ Err (Refusal.WrongSync wrong)
      unfolding word_read
      read_sync wrong e h = rw (eq-eqb _ _ right, le-ltb _ _ small, ← e, lt-ltb _ _ h)

      pub read_data : 162 ≤ first_wrong_sync frame → word_read frame ≡ word_of_data frame
      unfolding word_read
      read_data h = rw (eq-eqb _ _ right, le-ltb _ _ small, le-ltb _ _ h)

  -- Of a frame of the right form the word that its data bits determine is encoded anew, and compared.
  module _ (form : RightForm frame) (word : ℕ) (e : word ≡ decoded_word (received_bits frame)) where
    pub data_word : coded_bits word ≡ received_bits frame → word_of_data frame ≡ Ok word
    unfolding word_of_data
    data_word same = rw (← e, frame_by_data word frame form same, same_list_itself frame)

    pub data_none : (coded_bits word ≡ received_bits frame → ⊥) → word_of_data frame ≡ Err Refusal.NoWord
    unfolding word_of_data
    data_none other =
        rw (← e)
        (by_test (same_list (frame_of word) frame)
        (λ t. absurd (other (sym (received_frame_of word) ∙ ap received_bits (same_list_equal _ _ t))))
        (λ t. rw t))

  -- A frame of the right form is read by its data bits.
  pub read_form : RightForm frame → word_read frame ≡ word_of_data frame
  read_form form =
      read_data form.right_symbols.right_length (omega (arith, none_large frame form.right_symbols)) (omega (arith, none_wrong frame form))

  pub word_of_read : (word : ℕ) → word_read frame ≡ Ok word → (word < 2 ^ 50) × (frame_of word ≡ frame)
  unfolding word_read word_of_data
  word_of_read word e =
      let lengths = cond_passed (not (eqb (length frame) 162)) e (refused_not_ok _ word) in
      let large = cond_passed (ltb (first_large frame) 162) lengths.1 (refused_not_ok _ word) in
      let wrong = cond_passed (ltb (first_wrong_sync frame) 162) large.1 (refused_not_ok _ word) in
      let its_word = decoded_word (received_bits frame) in
      let same = cond_held (same_list (frame_of its_word) frame) wrong.1 (refused_not_ok _ word) in
      let is : its_word ≡ word = cc in
      (rw (← is) (decoded_word_below (received_bits frame)), rw (← is) (same_list_equal (frame_of its_word) frame same.0))

-- The refusal number 9 is that of one answer only.
pub none_by_number : (answer : Result ℕ Refusal) → (word_numbers answer).number ≡ no_word → answer ≡ Err Refusal.NoWord
unfolding word_numbers refusals refusal_from
none_by_number (Ok w) nine = absurd (omega arith)
none_by_number (Err f) nine = ap Err (sym (from_numbers f) ∙ ap (λ (number : ℕ). refusal_from number (refusal_place f)) nine)

-- A frame that is refused so has the right form.
pub form_of_none : (frame : List ℕ) → word_read frame ≡ Err Refusal.NoWord → RightForm frame
unfolding word_read
form_of_none frame e =
    let lengths = cond_passed (not (eqb (length frame) 162)) e (λ same. cc) in
    let large = cond_passed (ltb (first_large frame) 162) lengths.1 (λ same. cc) in
    let wrong = cond_passed (ltb (first_wrong_sync frame) 162) large.1 (λ same. cc) in
    form_of_tests frame (eqb-true _ _ (not-false _ lengths.0)) (ltb-false _ _ large.0) (ltb-false _ _ wrong.0)

-- A word's frame reads as the word.
pub read_frame_of : (word : ℕ) → word < 2 ^ 50 → word_read (frame_of word) ≡ Ok word
read_frame_of word h =
    read_form (frame_of word) (frame_right_form word)
    ∙ data_word (frame_of word) (frame_right_form word) word (sym (decoded_frame_of word h)) (sym (received_frame_of word))
