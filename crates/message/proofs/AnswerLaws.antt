-- The cases of the definitions of the answers, each by what holds there, and what an answer that is no refusal says of its input.
use mathlib.Core.Path.{◌≡◌, refl, sym, ◌∙◌}
use Prim.Native.Nat.{ℕ, ◌-◌, ◌^◌, ◌≤◌, ◌<◌}
use native.Mathlib.Omega.{arith}
use mathlib.Core.Bool.{true, false, cond, not, ◌||◌, or-true}
use mathlib.Core.List.{List, ◌++◌}
use lib.Dec.{eqb, leb, ltb}
use lib.ListN.{length}
use borrow.Author.Tests.{not-false, le-leb, leb-false, ltb-false, lt-leb, lt-ltb, le-ltb, eqb-true, eq-eqb, ne_eqb}
use Rattle.basics.proofs.Choice.{both_true, both_false, cond_passed, below_or_not, equal_or_not}
use Rattle.refusal.specs.declared.Refusal.{Refusal}
use Rattle.refusal.proofs.Laws.{refused_not_ok}
use Rattle.message.specs.declared.Message.{Message}
use Rattle.message.specs.Character.{first_bad, legal_at}
use Rattle.power.specs.Powers.{legal_power}
use Rattle.message.specs.Word.{word_of, callsign_part, locator_part, power_part}
use Rattle.message.specs.Answer.{right_lengths, message_checked, word_if_legal, message_packed, word_message, word_unpacked}
use Rattle.std.specs.Prelude.{Result, Ok, Err}
use Rattle.message.proofs.CharacterLaws.{AllLegal}
use Rattle.basics.proofs.ListLaws.{all_pass, first_failing_first, first_failing_append, none_fails}

-- ---- The cases of checking a message

pub lengths_right : (callsign locator : List ℕ) → length callsign ≡ 6 → length locator ≡ 4 → right_lengths (length callsign) (length locator) ≡ true
unfolding right_lengths
lengths_right callsign locator h k = rw (eq-eqb _ _ h, eq-eqb _ _ k)

pub lengths_wrong : (callsign locator : List ℕ) → (length callsign ≡ 6 → length locator ≡ 4 → ⊥) → right_lengths (length callsign) (length locator) ≡ false
unfolding right_lengths
lengths_wrong callsign locator other =
    equal_or_not (length callsign) 6
    (λ six. rw (eq-eqb _ _ six, ne_eqb _ _ (other six)))
    (λ longer. rw (ne_eqb _ _ longer))

pub lengths_of_right : (callsign locator : List ℕ) → right_lengths (length callsign) (length locator) ≡ true → (length callsign ≡ 6) × (length locator ≡ 4)
unfolding right_lengths
lengths_of_right callsign locator e =
    let tests = both_true (eqb (length callsign) 6) _ e in
    (eqb-true _ _ tests.0, eqb-true _ _ tests.1)

-- What a message is that is packed.
pub record Legal (callsign locator : List ℕ) (power : ℕ) : Type 0 where
  pub six : length callsign ≡ 6
  pub four : length locator ≡ 4
  pub callsign_legal : AllLegal 0 callsign
  pub locator_legal : AllLegal 6 locator
  pub power_legal : legal_power power ≡ true

-- A `Message` is legal, by its ghost fields.
pub legal_of_message : (m : Message) → length m.callsign ≡ 6 → length m.locator ≡ 4 → Legal m.callsign m.locator m.power
legal_of_message m six four = record {
  six = six;
  four = four;
  callsign_legal = all_pass legal_at 0 _ (omega (arith, six, m.callsign_legal));
  locator_legal = all_pass legal_at 6 _ (omega (arith, four, m.locator_legal));
  power_legal = m.power_legal;
}

module _ (callsign locator : List ℕ) (power : ℕ) where
  pub checked_length : right_lengths (length callsign) (length locator) ≡ false → message_checked callsign locator power ≡ Err Refusal.WrongLength
  unfolding message_checked
  checked_length e = rw e

  module _ (right : right_lengths (length callsign) (length locator) ≡ true) where
    pub checked_character : (bad : ℕ) → first_bad 0 (callsign ++ locator) ≡ bad → bad < 10
        → message_checked callsign locator power ≡ Err (Refusal.BadCharacter bad)
    unfolding message_checked
    checked_character bad e h = rw (right, e, lt-ltb bad 10 h)

    module _ (good : 10 ≤ first_bad 0 (callsign ++ locator)) where
      pub checked_power : legal_power power ≡ false → message_checked callsign locator power ≡ Err Refusal.BadPower
      unfolding message_checked
      checked_power e = rw (right, le-ltb _ 10 good, e)

      pub checked_legal : legal_power power ≡ true → message_checked callsign locator power ≡ (Ok tt)
      unfolding message_checked
      checked_legal e = rw (right, le-ltb _ 10 good, e)

  -- ---- The cases of packing it

  pub packed_refused : (f : Refusal) → message_checked callsign locator power ≡ Err f → message_packed callsign locator power ≡ Err f
  unfolding message_packed word_if_legal
  packed_refused f e = rw e

  pub packed_word : message_checked callsign locator power ≡ (Ok tt) → message_packed callsign locator power ≡ Ok (word_of callsign locator power)
  unfolding message_packed word_if_legal
  packed_word e = rw e

-- The characters of a message that is packed, part by part.
pub legal_parts : (callsign locator : List ℕ) → length callsign ≡ 6 → length locator ≡ 4 → 10 ≤ first_bad 0 (callsign ++ locator)
    → AllLegal 0 callsign × AllLegal 6 locator
legal_parts callsign locator six four good =
    let whole : AllLegal 0 callsign = all_pass legal_at 0 callsign (below_or_not (first_bad 0 callsign) 6 (λ h. absurd (omega (arith, first_failing_first legal_at 0 callsign locator (omega arith)))) (λ h. omega arith)) in
    (whole, all_pass legal_at 6 locator (omega (arith, first_failing_append legal_at 0 6 callsign locator (omega arith) whole)))

pub legal_whole : (callsign locator : List ℕ) → length callsign ≡ 6 → length locator ≡ 4 → AllLegal 0 callsign → AllLegal 6 locator
    → 10 ≤ first_bad 0 (callsign ++ locator)
legal_whole callsign locator six four h k =
    omega (arith, first_failing_append legal_at 0 6 callsign locator (omega arith) h, none_fails legal_at 6 locator k)

legal_message : (callsign locator : List ℕ) (power : ℕ) → right_lengths (length callsign) (length locator) ≡ true
    → 10 ≤ first_bad 0 (callsign ++ locator) → legal_power power ≡ true → Legal callsign locator power
legal_message callsign locator power right good legal =
    let lengths = lengths_of_right callsign locator right in
    let parts = legal_parts callsign locator lengths.0 lengths.1 good in
    record { six = lengths.0; four = lengths.1; callsign_legal = parts.0; locator_legal = parts.1; power_legal = legal }

pub legal_of_checked : (callsign locator : List ℕ) (power : ℕ) → message_checked callsign locator power ≡ (Ok tt) → Legal callsign locator power
unfolding message_checked
legal_of_checked callsign locator power e =
    let lengths = cond_passed (not (right_lengths (length callsign) (length locator))) e (refused_not_ok _ tt) in
    let characters = cond_passed (ltb (first_bad 0 (callsign ++ locator)) 10) lengths.1 (refused_not_ok _ tt) in
    let its_power = cond_passed (not (legal_power power)) characters.1 (refused_not_ok _ tt) in
    legal_message callsign locator power (not-false _ lengths.0) (ltb-false _ _ characters.0) (not-false _ its_power.0)

pub legal_of_packed : (callsign locator : List ℕ) (power word : ℕ) → message_packed callsign locator power ≡ Ok word
    → Legal callsign locator power × (word ≡ word_of callsign locator power)
legal_of_packed callsign locator power word e = go (message_checked callsign locator power) refl
  where
    go : (answer : Result (Unit {0}) Refusal) → message_checked callsign locator power ≡ answer → Legal callsign locator power × (word ≡ word_of callsign locator power)
    go (Ok tt) c =
        let made = packed_word callsign locator power c in
        (legal_of_checked callsign locator power c, cc)
    go (Err f) c = absurd (refused_not_ok f word (sym (packed_refused callsign locator power f c) ∙ e))

-- ---- The cases of reading a word

module _ (word : ℕ) where
  pub word_message_callsign : 262_177_560 ≤ callsign_part word → word_message word ≡ Err Refusal.WordTooLarge
  unfolding word_message
  word_message_callsign h = rw (le-leb 262_177_560 _ h, or-true (leb (2 ^ 50) word))

  module _ (callsign : callsign_part word < 262_177_560) where
    -- A word of 2^50 or more has a callsign number past the end.
    in_50_bits : word < 2 ^ 50
    unfolding callsign_part
    in_50_bits = omega arith

    pub word_message_locator : 32_400 ≤ locator_part word → word_message word ≡ Err Refusal.BadLocatorNumber
    unfolding word_message
    word_message_locator h = rw (lt-leb (2 ^ 50) word in_50_bits, lt-leb 262_177_560 _ callsign, le-leb 32_400 _ h)

    module _ (locator : locator_part word < 32_400) where
      -- What is left is the power's test.
      word_message_past_locator : word_message word
          ≡ cond (ltb (power_part word) 64 || not (legal_power (power_part word - 64))) (Err Refusal.BadPowerBits)
          (Ok (power_part word - 64))
      unfolding word_message
      word_message_past_locator = rw (lt-leb (2 ^ 50) word in_50_bits, lt-leb 262_177_560 _ callsign, lt-leb 32_400 _ locator)

      pub word_message_low : power_part word < 64 → word_message word ≡ Err Refusal.BadPowerBits
      word_message_low h = word_message_past_locator ∙ rw (lt-ltb _ 64 h)

      pub word_message_illegal : 64 ≤ power_part word → legal_power (power_part word - 64) ≡ false
          → word_message word ≡ Err Refusal.BadPowerBits
      word_message_illegal h e = word_message_past_locator ∙ rw (le-ltb _ 64 h, e)

      pub word_message_power : 64 ≤ power_part word → legal_power (power_part word - 64) ≡ true
          → word_message word ≡ Ok (power_part word - 64)
      word_message_power h e = word_message_past_locator ∙ rw (le-ltb _ 64 h, e)

-- What a word is that is read.
pub record Readable (word power : ℕ) : Type 0 where
  pub callsign : callsign_part word < 262_177_560
  pub locator : locator_part word < 32_400
  pub bits : 64 ≤ power_part word
  pub is_power : power ≡ power_part word - 64
  pub power_legal : legal_power power ≡ true

pub readable : (word power : ℕ) → word_message word ≡ Ok power → Readable word power
unfolding word_message
readable word power e =
    let size = cond_passed (leb (2 ^ 50) word || leb 262_177_560 (callsign_part word)) e (refused_not_ok _ power) in
    let its_locator = cond_passed (leb 32_400 (locator_part word)) size.1 (refused_not_ok _ power) in
    let its_power = cond_passed (ltb (power_part word) 64 || not (legal_power (power_part word - 64))) its_locator.1 (refused_not_ok _ power) in
    let tests = both_false (ltb (power_part word) 64) _ its_power.0 in
    let same : power ≡ power_part word - 64 = cc in
    record {
      callsign = leb-false _ _ (both_false (leb (2 ^ 50) word) _ size.0).1;
      locator = leb-false _ _ its_locator.0;
      bits = ltb-false _ _ tests.0;
      is_power = same;
      power_legal = rw same (not-false _ tests.1);
    }

-- ---- The cases of unpacking into lent buffers

module _ (callsign locator : List ℕ) (word : ℕ) where
  pub unpacked_length : right_lengths (length callsign) (length locator) ≡ false → word_unpacked callsign locator word ≡ Err Refusal.WrongLength
  unfolding word_unpacked
  unpacked_length e = rw e

  pub unpacked_read : right_lengths (length callsign) (length locator) ≡ true → word_unpacked callsign locator word ≡ word_message word
  unfolding word_unpacked
  unpacked_read e = rw e
