-- The round trips between a message and its word, and that the reader refuses exactly the words that the writer never makes.
use mathlib.Core.Path.{◌≡◌, refl, sym, ap, ◌∙◌}
use mathlib.Core.Logic.{◌↔◌}
use Prim.Native.Nat.{ℕ, ◌-◌}
use native.Mathlib.Omega.{arith}
use mathlib.Core.Bool.{true}
use mathlib.Core.List.{List}
use lib.ListN.{length}
use Rattle.refusal.specs.declared.Refusal.{Refusal}
use Rattle.refusal.specs.Refusals.{Refused}
use Rattle.message.specs.Character.{capital_form}
use Rattle.message.specs.Word.{callsign_number, locator_number, lower_number, word_from, word_of, callsign_part, locator_part, power_part, callsign_with_number, locator_with_number, callsign_of, locator_of}
use Rattle.message.specs.Answer.{right_lengths, message_packed, word_message, word_unpacked, content_after, callsign_after_unpack, locator_after_unpack, message_numbers}
use Rattle.message.specs.RoundTrip.{UnpacksAs, PacksBack, WrittenInCapitals, NeverPacked, UnpackRefusedExactly}
use Rattle.std.specs.Prelude.{Result, Ok, Err}
use Rattle.power.proofs.Laws.{legal_power_end}
use Rattle.message.proofs.WordLaws.{callsign_number_below, callsign_with_number_callsign_number, callsign_with_number_length, callsign_with_number_legal, callsign_number_callsign_with_number, locator_number_below, locator_with_number_locator_number, locator_with_number_length, locator_with_number_legal, locator_number_locator_with_number, callsign_part_word, locator_part_word, power_part_word, word_below, word_of_parts}
use Rattle.message.proofs.AnswerLaws.{lengths_right, checked_legal, packed_word, legal_whole, legal_of_packed, word_message_power, readable, unpacked_read}

-- ---- The round trips

-- A packed message reads back as its capital form.
pub unpack_pack : (callsign locator : List ℕ) (power word : ℕ) → message_packed callsign locator power ≡ Ok word
    → UnpacksAs word (capital_form callsign) (capital_form locator) power
unfolding word_of callsign_of locator_of
unpack_pack callsign locator power word e =
    let made = legal_of_packed callsign locator power word e in
    let l = made.0 in
    let n = callsign_number callsign in
    let m1 = locator_number locator in
    let below = callsign_number_below callsign l.six l.callsign_legal in
    let within = locator_number_below locator l.four l.locator_legal in
    let end = legal_power_end power l.power_legal in
    let its_n = callsign_part_word n m1 power within end in
    let its_m1 = locator_part_word n m1 power within end in
    let its_bits = power_part_word n m1 power within end in
    let w = word_from n (lower_number m1 power) in
    let same : power_part w - 64 ≡ power = omega arith in
    rw made.1 (record {
      in_50_bits = word_below n m1 power within end below;
      its_power = word_message_power w (omega arith) (omega arith) (omega arith) (rw same l.power_legal) ∙ ap Ok same;
      its_callsign = rw its_n (callsign_with_number_callsign_number callsign l.six l.callsign_legal);
      its_locator = rw its_m1 (locator_with_number_locator_number locator l.four l.locator_legal);
    })

-- A word that is read packs back.
pub pack_unpack : (word power : ℕ) → word_message word ≡ Ok power → message_packed (callsign_of word) (locator_of word) power ≡ Ok word
unfolding word_of callsign_of locator_of
pack_unpack word power e =
    let r = readable word power e in
    let n = callsign_part word in
    let m1 = locator_part word in
    packed_word (callsign_with_number n) (locator_with_number m1) power
    (checked_legal (callsign_with_number n) (locator_with_number m1) power
    (lengths_right (callsign_with_number n) (locator_with_number m1) (callsign_with_number_length n) (locator_with_number_length m1))
    (legal_whole _ _ (callsign_with_number_length n) (locator_with_number_length m1) (callsign_with_number_legal n) (locator_with_number_legal m1))
    r.power_legal)
    ∙ ap Ok (rw (callsign_number_callsign_with_number n r.callsign, locator_number_locator_with_number m1 r.locator, r.is_power) (word_of_parts word r.bits))

-- So what is read is in capitals: it packs to its word, which reads as its capital form.
read_in_capitals : (word power : ℕ) → word_message word ≡ Ok power
    → (capital_form (callsign_of word) ≡ callsign_of word) × (capital_form (locator_of word) ≡ locator_of word)
read_in_capitals word power e =
    let back = unpack_pack (callsign_of word) (locator_of word) power word (pack_unpack word power e) in
    (sym back.its_callsign, sym back.its_locator)

-- The reader refuses exactly the words that the writer never makes.
pub refuses_exactly : (word : ℕ) → Refused (word_message word) ↔ NeverPacked word
refuses_exactly word = (λ refused callsign locator power made. never refused (unpack_pack callsign locator power word made).its_power, λ never_made. exact (word_message word) refl never_made)
  where
    never : {power : ℕ} → Refused (word_message word) → word_message word ≡ Ok power → ⊥
    never refused e = rw e at refused

    exact : (answer : Result ℕ Refusal) → word_message word ≡ answer → NeverPacked word → Refused answer
    exact (Ok p) e never_made = never_made _ _ p (pack_unpack word p e)
    exact (Err f) e never_made = tt

-- ---- What unpacking into lent buffers promises, from its answer and what they then hold

module _ (callsign locator : List ℕ) (word : ℕ) where
  -- Clause by clause.
  abbrev pub Promised : Result ℕ Refusal → List ℕ → List ℕ → Type 0
  Promised result its_callsign its_locator = record {
    answer : result ≡ word_unpacked callsign locator word;
    numbers : message_numbers result ≡ message_numbers (word_unpacked callsign locator word);
    callsign_after : its_callsign ≡ callsign_after_unpack callsign locator word;
    locator_after : its_locator ≡ locator_after_unpack callsign locator word;
    packs_back : PacksBack result word its_callsign its_locator;
    in_capitals : WrittenInCapitals result its_callsign its_locator;
    refuses_exactly : UnpackRefusedExactly result word callsign locator;
  }

  -- With the lengths right the answer is the word's.
  exactly : UnpackRefusedExactly (word_unpacked callsign locator word) word callsign locator
  exactly six four = rw (unpacked_read callsign locator word (lengths_right callsign locator six four)) (refuses_exactly word)

  pub promised_refused : (f : Refusal) → word_unpacked callsign locator word ≡ Err f → Promised (Err f) callsign locator
  unfolding callsign_after_unpack locator_after_unpack content_after
  promised_refused f e = record {
    answer = sym e;
    numbers = ap message_numbers (sym e);
    callsign_after = rw e;
    locator_after = rw e;
    packs_back = tt;
    in_capitals = tt;
    refuses_exactly = rw e at exactly;
  }

  pub promised_power : (power : ℕ) → right_lengths (length callsign) (length locator) ≡ true → word_message word ≡ Ok power
      → Promised (Ok power) (callsign_of word) (locator_of word)
  unfolding callsign_after_unpack locator_after_unpack content_after
  promised_power power right read =
      let e = unpacked_read callsign locator word right ∙ read in
      record {
        answer = sym e;
        numbers = ap message_numbers (sym e);
        callsign_after = rw e;
        locator_after = rw e;
        packs_back = pack_unpack word power read;
        in_capitals = read_in_capitals word power read;
        refuses_exactly = rw e at exactly;
      }
