-- The round trips, and that each reader refuses exactly what its matching writer never makes (demand 2), of the definitions of the answers.
use mathlib.Core.Path.{◌≡◌, refl, sym, ◌∙◌, ap}
use Prim.Native.Nat.{ℕ, ◌^◌, ◌<◌}
use mathlib.Core.Bool.{not}
use mathlib.Core.List.{List}
use lib.ListN.{length}
use Rattle.std.specs.Prelude.{Result, Ok, Err}
use Rattle.basics.specs.Lists.{same_list}
use Rattle.basics.proofs.Choice.{cond_passed, by_test}
use Rattle.basics.proofs.ListLaws.{same_list_equal}
use Rattle.refusal.specs.declared.Refusal.{Refusal}
use Rattle.refusal.specs.Refusals.{Refused}
use Rattle.refusal.proofs.Laws.{refused_not_ok}
use Rattle.message.specs.Character.{capital_form}
use Rattle.message.specs.Answer.{right_lengths, message_packed, word_unpacked, callsign_after_unpack, locator_after_unpack, content_after, word_numbers, message_numbers}
use Rattle.message.specs.Word.{word_of, callsign_of, locator_of}
use Rattle.message.specs.RoundTrip.{WrittenInCapitals}
use Rattle.message.proofs.AnswerLaws.{lengths_right, unpacked_read}
use Rattle.message.proofs.CapitalLaws.{packed_capitals, word_capitals}
use Rattle.message.proofs.RoundTripLaws.{unpack_pack, pack_unpack}
use Rattle.convolution.specs.Decoding.{decoded_word}
use Rattle.convolution.proofs.DecodingLaws.{decoded_word_below}
use Rattle.frame.specs.Symbols.{frame_of, received_bits}
use Rattle.frame.specs.Answer.{word_written, message_written, frame_after, frame_after_word, frame_after_message, word_of_data, word_read, message_if_word, callsign_if_word, locator_if_word, message_read, callsign_after_read, locator_after_read, write_numbers}
use Rattle.frame.specs.RoundTrip.{WordReadsBack, WordWritesAs, WordWritesBack, NeverFromWord, WordRefusedExactly, RightForm, NoWord, NoWordRefused, ReadsAsMessage, MessageReadsBack, MessageWritesAs, MessageWritesBack, NeverFromMessage, MessageRefusedExactly}
use Rattle.frame.proofs.SymbolLaws.{length_frame_of, frame_of_injective}
use Rattle.frame.proofs.AnswerLaws.{written_done, done_of_word, after_word_done, message_done, done_of_message, after_message_done, word_of_read, none_by_number, form_of_none, read_frame_of, read_form}

-- ---- A word and its frame

pub word_reads_back : (frame : List ℕ) (word : ℕ) → WordReadsBack (word_written frame word) word (frame_after_word frame word)
word_reads_back frame word = go (word_written frame word) refl
  where
    go : (answer : Result (Unit {0}) Refusal) → word_written frame word ≡ answer → WordReadsBack answer word (frame_after_word frame word)
    go (Ok tt) e =
        let below = (done_of_word frame word e).1 in
        rw (after_word_done frame word e)
        (record { its_word = read_frame_of word below; no_other = λ other h same. frame_of_injective other word h below same })
    go (Err f) e = tt

-- A word with this frame writes it.
word_writes_as : (word : ℕ) (frame : List ℕ) → word < 2 ^ 50 → frame_of word ≡ frame → WordWritesAs word frame
word_writes_as word frame h same before right =
    let done = written_done before word right h in
    (done, after_word_done before word done ∙ same)

pub word_writes_back : (frame : List ℕ) → WordWritesBack (word_read frame) frame
word_writes_back frame = go (word_read frame) refl
  where
    go : (answer : Result ℕ Refusal) → word_read frame ≡ answer → WordWritesBack answer frame
    go (Ok w) e = let made = word_of_read frame w e in word_writes_as w frame made.0 made.1
    go (Err f) e = tt

-- A frame that some word has isn't refused.
word_not_refused : (frame : List ℕ) (word : ℕ) → word < 2 ^ 50 → frame_of word ≡ frame → Refused (word_read frame) → ⊥
word_not_refused frame word h e refused = rw (← e, read_frame_of word h) at refused

pub word_refused_exactly : (frame : List ℕ) → WordRefusedExactly (word_read frame) frame
word_refused_exactly frame = (never, λ none. exact (word_read frame) refl none)
  where
    never : Refused (word_read frame) → NeverFromWord frame
    never refused before word done after =
        word_not_refused frame word (done_of_word before word done).1 (sym (after_word_done before word done) ∙ after) refused

    exact : (answer : Result ℕ Refusal) → word_read frame ≡ answer → NeverFromWord frame → Refused answer
    exact (Ok w) e none =
        let made = word_of_read frame w e in
        let written = word_writes_as w frame made.0 made.1 (frame_of w) (length_frame_of w) in
        none (frame_of w) w written.0 written.1
    exact (Err f) e none = tt

-- Refusal 9.
none_refused : (frame : List ℕ) → RightForm frame → NoWord frame → word_read frame ≡ Err Refusal.NoWord
unfolding word_of_data
none_refused frame form none =
    let word = decoded_word (received_bits frame) in
    read_form frame form
    ∙ by_test (same_list (frame_of word) frame)
    (λ t. absurd (none word (decoded_word_below (received_bits frame)) (same_list_equal _ _ t)))
    (λ t. rw t)

pub no_word_refused : (frame : List ℕ) → NoWordRefused (word_read frame) frame
unfolding word_numbers
no_word_refused frame = (
  λ nine.
      let e = none_by_number (word_read frame) nine in
      (form_of_none frame e, λ word h same. word_not_refused frame word h same (rw e tt)),
  λ (form, none). ap (λ (answer : Result ℕ Refusal). (word_numbers answer).number) (none_refused frame form none),
)

-- ---- A message and its frame

-- A message's frame reads as the message's capital form.
reads_as : (callsign locator : List ℕ) (power word : ℕ) → message_packed callsign locator power ≡ Ok word
    → ReadsAsMessage (frame_of word) (capital_form callsign) (capital_form locator) power
unfolding message_read callsign_after_read locator_after_read message_if_word callsign_if_word locator_if_word callsign_after_unpack locator_after_unpack content_after
reads_as callsign locator power word made c l six four =
    let back = unpack_pack callsign locator power word made in
    let read = read_frame_of word back.in_50_bits in
    let answer : word_unpacked c l word ≡ Ok power = unpacked_read c l word (lengths_right c l six four) ∙ back.its_power in
    (rw read answer, (rw (read, answer) back.its_callsign, rw (read, answer) back.its_locator))

pub message_reads_back : (callsign locator : List ℕ) (power : ℕ) (frame : List ℕ)
    → MessageReadsBack (message_written callsign locator power frame) callsign locator power (frame_after_message callsign locator power frame)
message_reads_back callsign locator power frame = go (message_written callsign locator power frame) refl
  where
    go : (answer : Result (Unit {0}) Refusal) → message_written callsign locator power frame ≡ answer
        → MessageReadsBack answer callsign locator power (frame_after_message callsign locator power frame)
    go (Ok tt) e =
        rw (after_message_done callsign locator power frame e)
        (reads_as callsign locator power (word_of callsign locator power) (done_of_message callsign locator power frame e).1)
    go (Err f) e = tt

-- Small letters count as their capitals.
written_capitals : (callsign locator : List ℕ) (power : ℕ) (frame : List ℕ)
    → message_written (capital_form callsign) (capital_form locator) power frame ≡ message_written callsign locator power frame
unfolding message_written
written_capitals callsign locator power frame = rw (packed_capitals callsign locator power)

after_capitals : (callsign locator : List ℕ) (power : ℕ) (frame : List ℕ)
    → frame_after_message (capital_form callsign) (capital_form locator) power frame ≡ frame_after_message callsign locator power frame
unfolding frame_after_message
after_capitals callsign locator power frame = rw (written_capitals callsign locator power frame, word_capitals callsign locator power)

-- A message with this word writes its frame.
writes_as : (callsign locator : List ℕ) (power word : ℕ) (frame : List ℕ) → message_packed callsign locator power ≡ Ok word
    → frame_of word ≡ frame → MessageWritesAs callsign locator power frame
writes_as callsign locator power word frame made same before right =
    let written = message_done callsign locator power before word right made in
    (written.0, written.1 ∙ same)

-- The answer with a power is that of a frame with a word that has that power.
power_of_read : (frame c l : List ℕ) (power : ℕ) → message_read frame c l ≡ Ok power
    → MessageWritesAs (callsign_after_read frame c l) (locator_after_read frame c l) power frame
unfolding message_read callsign_after_read locator_after_read message_if_word callsign_if_word locator_if_word callsign_after_unpack locator_after_unpack content_after word_unpacked
power_of_read frame c l power = go (word_read frame) refl
  where
    go : (answer : Result ℕ Refusal) → word_read frame ≡ answer → message_if_word answer c l ≡ Ok power
        → MessageWritesAs (callsign_if_word answer c l) (locator_if_word answer c l) power frame
    go (Err f) e read = absurd (refused_not_ok f power read)
    go (Ok w) e read =
        let its_power = (cond_passed (not (right_lengths (length c) (length l))) read (refused_not_ok _ power)).1 in
        rw read (writes_as (callsign_of w) (locator_of w) power w frame (pack_unpack w power its_power) (word_of_read frame w e).1)

pub message_writes_back : (frame c l : List ℕ)
    → MessageWritesBack (message_read frame c l) frame (callsign_after_read frame c l) (locator_after_read frame c l)
message_writes_back frame c l = go (message_read frame c l) refl
  where
    go : (answer : Result ℕ Refusal) → message_read frame c l ≡ answer → MessageWritesBack answer frame (callsign_after_read frame c l) (locator_after_read frame c l)
    go (Ok p) e = power_of_read frame c l p e
    go (Err f) e = tt

pub message_refused_exactly : (frame c l : List ℕ) → MessageRefusedExactly (message_read frame c l) frame c l
message_refused_exactly frame c l six four = (never, λ none. exact (message_read frame c l) refl none)
  where
    never : Refused (message_read frame c l) → NeverFromMessage frame
    never refused callsign locator power before done after =
        let made = (done_of_message callsign locator power before done).1 in
        let same = sym (after_message_done callsign locator power before done) ∙ after in
        let read = (reads_as callsign locator power (word_of callsign locator power) made c l six four).0 in
        rw (← same, read) at refused

    exact : (answer : Result ℕ Refusal) → message_read frame c l ≡ answer → NeverFromMessage frame → Refused answer
    exact (Ok p) e none =
        let made = power_of_read frame c l p e (frame_of 0) (length_frame_of 0) in
        none (callsign_after_read frame c l) (locator_after_read frame c l) p (frame_of 0) made.0 made.1
    exact (Err f) e none = tt

-- ---- What each function promises, from its answer and what the lent buffers then hold, clause by clause

module _ (frame : List ℕ) (word : ℕ) where
  abbrev pub WriteWordPromised : Result (Unit {0}) Refusal → List ℕ → Type 0
  WriteWordPromised result content = record {
    answer : result ≡ word_written frame word;
    numbers : write_numbers result ≡ write_numbers (word_written frame word);
    frame_after : content ≡ frame_after_word frame word;
    reads_back : WordReadsBack result word content;
  }

  pub write_word_refused : (f : Refusal) → word_written frame word ≡ Err f → WriteWordPromised (Err f) frame
  unfolding frame_after_word frame_after
  write_word_refused f e = record { answer = sym e; numbers = ap write_numbers (sym e); frame_after = rw e; reads_back = tt }

  pub write_word_done : word_written frame word ≡ Ok tt → WriteWordPromised (Ok tt) (frame_of word)
  write_word_done e =
      let after = after_word_done frame word e in
      record { answer = sym e; numbers = ap write_numbers (sym e); frame_after = sym after; reads_back = rw (e, after) at (word_reads_back frame word) }

module _ (callsign locator : List ℕ) (power : ℕ) (frame : List ℕ) where
  abbrev pub WriteMessagePromised : Result (Unit {0}) Refusal → List ℕ → Type 0
  WriteMessagePromised result content = record {
    answer : result ≡ message_written callsign locator power frame;
    numbers : write_numbers result ≡ write_numbers (message_written callsign locator power frame);
    frame_after : content ≡ frame_after_message callsign locator power frame;
    as_capitals : result ≡ message_written (capital_form callsign) (capital_form locator) power frame;
    frame_as_capitals : content ≡ frame_after_message (capital_form callsign) (capital_form locator) power frame;
    reads_back : MessageReadsBack result callsign locator power content;
  }

  pub write_message_promised : (result : Result (Unit {0}) Refusal) (content : List ℕ) → message_written callsign locator power frame ≡ result
      → frame_after_message callsign locator power frame ≡ content → WriteMessagePromised result content
  write_message_promised result content e after = record {
    answer = sym e;
    numbers = ap write_numbers (sym e);
    frame_after = sym after;
    as_capitals = sym (written_capitals callsign locator power frame ∙ e);
    frame_as_capitals = sym (after_capitals callsign locator power frame ∙ after);
    reads_back = rw (e, after) at (message_reads_back callsign locator power frame);
  }

  pub write_message_refused : (f : Refusal) → message_written callsign locator power frame ≡ Err f → WriteMessagePromised (Err f) frame
  unfolding frame_after_message frame_after
  write_message_refused f e = write_message_promised (Err f) frame e (rw e)

module _ (frame : List ℕ) where
  abbrev pub ReadWordPromised : Result ℕ Refusal → Type 0
  ReadWordPromised result = record {
    answer : result ≡ word_read frame;
    numbers : word_numbers result ≡ word_numbers (word_read frame);
    writes_back : WordWritesBack result frame;
    refuses_exactly : WordRefusedExactly result frame;
    no_word : NoWordRefused result frame;
  }

  pub read_word_promised : (result : Result ℕ Refusal) → word_read frame ≡ result → ReadWordPromised result
  read_word_promised result e = record {
    answer = sym e;
    numbers = ap word_numbers (sym e);
    writes_back = rw e at (word_writes_back frame);
    refuses_exactly = rw e at (word_refused_exactly frame);
    no_word = rw e at (no_word_refused frame);
  }

module _ (frame callsign locator : List ℕ) where
  abbrev pub ReadMessagePromised : Result ℕ Refusal → List ℕ → List ℕ → Type 0
  ReadMessagePromised result its_callsign its_locator = record {
    answer : result ≡ message_read frame callsign locator;
    numbers : message_numbers result ≡ message_numbers (message_read frame callsign locator);
    callsign_after : its_callsign ≡ callsign_after_read frame callsign locator;
    locator_after : its_locator ≡ locator_after_read frame callsign locator;
    writes_back : MessageWritesBack result frame its_callsign its_locator;
    in_capitals : WrittenInCapitals result its_callsign its_locator;
    refuses_exactly : MessageRefusedExactly result frame callsign locator;
  }

  read_message_promised : (result : Result ℕ Refusal) (its_callsign its_locator : List ℕ) → result ≡ message_read frame callsign locator
      → its_callsign ≡ callsign_after_read frame callsign locator → its_locator ≡ locator_after_read frame callsign locator
      → WrittenInCapitals result its_callsign its_locator → ReadMessagePromised result its_callsign its_locator
  read_message_promised result its_callsign its_locator e e₂ e₃ in_capitals = record {
    answer = e;
    numbers = ap message_numbers e;
    callsign_after = e₂;
    locator_after = e₃;
    writes_back = rw (e, e₂, e₃) (message_writes_back frame callsign locator);
    in_capitals = in_capitals;
    refuses_exactly = rw e (message_refused_exactly frame callsign locator);
  }

  -- The first refusal is the one returned.
  pub read_message_refused : (f : Refusal) → word_read frame ≡ Err f → ReadMessagePromised (Err f) callsign locator
  unfolding message_read callsign_after_read locator_after_read message_if_word callsign_if_word locator_if_word
  read_message_refused f e = read_message_promised (Err f) callsign locator (rw e) (rw e) (rw e) tt

  -- A frame with a word is read as the word is.
  pub read_message_word : (word : ℕ) (result : Result ℕ Refusal) (its_callsign its_locator : List ℕ) → word_read frame ≡ Ok word
      → result ≡ word_unpacked callsign locator word → its_callsign ≡ callsign_after_unpack callsign locator word
      → its_locator ≡ locator_after_unpack callsign locator word → WrittenInCapitals result its_callsign its_locator
      → ReadMessagePromised result its_callsign its_locator
  unfolding message_read callsign_after_read locator_after_read message_if_word callsign_if_word locator_if_word
  read_message_word word result its_callsign its_locator e e₂ e₃ e₄ in_capitals =
      read_message_promised result its_callsign its_locator (rw e e₂) (rw e e₃) (rw e e₄) in_capitals
