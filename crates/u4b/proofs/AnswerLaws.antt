-- The cases of the definitions of the answers, each by what holds there, and what an answer that is no refusal says of its input.
use mathlib.Core.Path.{◌≡◌, refl, sym, ap, ◌∙◌}
use Prim.Native.Nat.{ℕ, ◌≤◌, ◌<◌}
use mathlib.Core.Bool.{true, false, not}
use mathlib.Core.List.{List}
use lib.Dec.{ltb}
use lib.ListN.{length, get_or}
use borrow.Author.Tests.{not-false, lt-ltb, le-ltb, ltb-false}
use Rattle.basics.proofs.Choice.{cond_passed}
use Rattle.basics.proofs.ListLaws.{first_failing_map}
use Rattle.refusal.specs.declared.Refusal.{Refusal}
use Rattle.refusal.proofs.Laws.{refused_not_ok}
use Rattle.message.specs.Character.{capital, capital_form}
use Rattle.message.specs.Answer.{right_lengths, message_checked}
use Rattle.std.specs.Prelude.{Result, Ok, Err}
use Rattle.message.proofs.AnswerLaws.{Legal, legal_of_checked}
use Rattle.message.proofs.CharacterLaws.{capital_capital, capital_space}
use Rattle.message.proofs.CapitalLaws.{get_d_capitals, digits_capitals, checked_capitals}
use Rattle.u4b.specs.Channel.{is_first_character, is_third_character, channel_of}
use Rattle.u4b.specs.Alphabet.{taken_at, first_not_taken}
use Rattle.u4b.specs.Characters.{upper_digits, upper_of, power_with, lower_of}
use Rattle.u4b.specs.Answer.{payload_message, payload_written, payload_of, payload_alphabet, message_payload, payload_if_legal, payload_read}
use Rattle.u4b.specs.declared.channel.Channel.{Channel}
use Rattle.u4b.specs.declared.channel.FirstCharacters.{FirstCharacters}
use Rattle.u4b.specs.declared.alphabet.Alphabet.{Alphabet}
use Rattle.u4b.specs.declared.Payload.{Payload}

-- ---- The cases of writing

module _ (taken : FirstCharacters) (payload : Payload) where
  pub message_first : is_first_character taken payload.channel.first ≡ false → payload_message taken payload ≡ Err (Refusal.OutOfRange 0)
  unfolding payload_message
  message_first e = rw e

  module _ (is_first : is_first_character taken payload.channel.first ≡ true) where
    pub message_third : is_third_character payload.channel.third ≡ false → payload_message taken payload ≡ Err (Refusal.OutOfRange 1)
    unfolding payload_message
    message_third e = rw (is_first, e)

    pub message_power : is_third_character payload.channel.third ≡ true → payload_message taken payload ≡ Ok (power_with payload.lower)
    unfolding payload_message
    message_power e = rw (is_first, e)

  -- What a payload is that is written, and its power.
  pub record Writable (power : ℕ) : Type 0 where
    pub is_first : is_first_character taken payload.channel.first ≡ true
    pub is_third : is_third_character payload.channel.third ≡ true
    pub is_power : power ≡ power_with payload.lower

  pub writable : (power : ℕ) → payload_message taken payload ≡ Ok power → Writable power
  unfolding payload_message
  writable power e =
      let its_first = cond_passed (not (is_first_character taken payload.channel.first)) e (refused_not_ok _ power) in
      let its_third = cond_passed (not (is_third_character payload.channel.third)) its_first.1 (refused_not_ok _ power) in
      record { is_first = not-false _ its_first.0; is_third = not-false _ its_third.0; is_power = cc }

module _ (taken : FirstCharacters) (callsign locator : List ℕ) (payload : Payload) where
  pub written_length : right_lengths (length callsign) (length locator) ≡ false
      → payload_written taken callsign locator payload ≡ Err Refusal.WrongLength
  unfolding payload_written
  written_length e = rw e

  pub written_message : right_lengths (length callsign) (length locator) ≡ true → payload_written taken callsign locator payload ≡ payload_message taken payload
  unfolding payload_written
  written_message e = rw e

  pub message_of_written : (power : ℕ) → payload_written taken callsign locator payload ≡ Ok power
      → payload_message taken payload ≡ Ok power
  unfolding payload_written
  message_of_written power e = (cond_passed (not (right_lengths (length callsign) (length locator))) e (refused_not_ok _ power)).1

-- ---- The cases of reading

module _ (taken : FirstCharacters) (callsign locator : List ℕ) (power : ℕ) where
  pub read_illegal : (f : Refusal) → message_checked callsign locator power ≡ Err f → payload_read taken callsign locator power ≡ Err f
  unfolding payload_read payload_if_legal
  read_illegal f e = rw e

  module _ (legal : message_checked callsign locator power ≡ (Ok tt)) where
    read_legal : payload_read taken callsign locator power ≡ message_payload taken callsign locator power
    unfolding payload_read payload_if_legal
    read_legal = rw legal

    pub read_not_taken : (place : ℕ) → first_not_taken (payload_alphabet taken) callsign ≡ place → place < 6
        → payload_read taken callsign locator power ≡ Err (Refusal.NotTelemetry place)
    unfolding message_payload
    read_not_taken place e h = read_legal ∙ rw (e, lt-ltb place 6 h)

    pub read_payload : 6 ≤ first_not_taken (payload_alphabet taken) callsign
        → payload_read taken callsign locator power ≡ Ok (payload_of callsign locator power)
    unfolding message_payload
    read_payload h = read_legal ∙ rw (le-ltb _ 6 h)

-- What a message is whose payload is read, and its payload.
pub record Readable (taken : FirstCharacters) (callsign locator : List ℕ) (power : ℕ) (p : Payload) : Type 0 where
  pub legal : Legal callsign locator power
  pub all_taken : 6 ≤ first_not_taken (payload_alphabet taken) callsign
  pub is_payload : p ≡ payload_of callsign locator power

pub readable : (taken : FirstCharacters) (callsign locator : List ℕ) (power : ℕ) (p : Payload)
    → payload_read taken callsign locator power ≡ Ok p → Readable taken callsign locator power p
unfolding message_payload
readable taken callsign locator power p e = go (message_checked callsign locator power) refl
  where
    taken_of : message_payload taken callsign locator power ≡ Ok p
        → (6 ≤ first_not_taken (payload_alphabet taken) callsign) × (p ≡ payload_of callsign locator power)
    taken_of m =
        let tests = cond_passed (ltb (first_not_taken (payload_alphabet taken) callsign) 6) m (refused_not_ok _ p) in
        (ltb-false _ _ tests.0, cc)

    go : (answer : Result (Unit {0}) Refusal) → message_checked callsign locator power ≡ answer → Readable taken callsign locator power p
    go (Ok tt) c =
        let (all_taken, same) = taken_of (sym (read_legal taken callsign locator power c) ∙ e) in
        record { legal = legal_of_checked callsign locator power c; all_taken = all_taken; is_payload = same }
    go (Err f) c = absurd (refused_not_ok f p (sym (read_illegal taken callsign locator power f c) ∙ e))

-- ---- Small letters count as their capitals

taken_capital : (alphabet : Alphabet) (place b : ℕ) → taken_at alphabet place (capital b) ≡ taken_at alphabet place b
unfolding taken_at
taken_capital alphabet place b = rw (capital_capital b, capital_space b)

taken_capitals : (alphabet : Alphabet) (callsign : List ℕ) → first_not_taken alphabet (capital_form callsign) ≡ first_not_taken alphabet callsign
unfolding first_not_taken
taken_capitals alphabet callsign = first_failing_map (taken_at alphabet) capital (taken_capital alphabet) 0 callsign

-- A character of the capital form, as a capital.
capital_at : (i : ℕ) (bs : List ℕ) → capital (get_or (capital_form bs) i 0) ≡ capital (get_or bs i 0)
capital_at i bs = ap capital (get_d_capitals bs i) ∙ capital_capital (get_or bs i 0)

channel_capitals : (callsign : List ℕ) → channel_of (capital_form callsign) ≡ channel_of callsign
channel_capitals callsign = same_channel (capital_at 0 callsign) (capital_at 2 callsign)
  where
    same_channel : {first third first' third' : ℕ} → first ≡ first' → third ≡ third'
        → ◌≡◌ {A = Channel} (record { first = first; third = third }) (record { first = first'; third = third' })
    same_channel e f = rw (e, f)

payload_capitals : (callsign locator : List ℕ) (power : ℕ) → payload_of (capital_form callsign) (capital_form locator) power ≡ payload_of callsign locator power
unfolding payload_of upper_of upper_digits lower_of
payload_capitals callsign locator power =
    rw (channel_capitals callsign, digits_capitals 0 callsign, digits_capitals 6 locator)

pub read_capitals : (taken : FirstCharacters) (callsign locator : List ℕ) (power : ℕ)
    → payload_read taken (capital_form callsign) (capital_form locator) power ≡ payload_read taken callsign locator power
unfolding payload_read message_payload
read_capitals taken callsign locator power =
    rw (
      checked_capitals callsign locator power,
      taken_capitals (payload_alphabet taken) callsign,
      payload_capitals callsign locator power,
    )
