-- Small letters count as their capitals: of a message's capital form each definition gives what it gives of the message as typed.
use mathlib.Core.Path.{◌≡◌, refl, sym, ap, ◌∙◌}
use Prim.Native.Nat.{ℕ, suc, ◌+◌}
use mathlib.Core.List.{List, [], ◌∷◌, ◌++◌, map-append}
use lib.ListN.{length, get_or, length-map, get_or-map}
use Rattle.basics.proofs.ListLaws.{first_failing_map}
use Rattle.message.specs.Character.{capital, capital_form, set_at, legal_at, first_bad, digit_at, character_at, over_places, digits_from, characters_from}
use Rattle.message.specs.Word.{callsign_number, locator_number, word_of}
use Rattle.message.specs.Answer.{right_lengths, message_checked, message_packed, check_numbers}
use Rattle.std.specs.Prelude.{Result, Err}
use Rattle.refusal.specs.declared.Refusal.{Refusal}
use Rattle.message.proofs.CharacterLaws.{value_capital, capital_character}

-- ---- Places

legal_capital : (place b : ℕ) → legal_at place (capital b) ≡ legal_at place b
unfolding legal_at
legal_capital place b = rw (value_capital b)

digit_capital : (place b : ℕ) → digit_at place (capital b) ≡ digit_at place b
unfolding digit_at
digit_capital place b = rw (value_capital b)

-- ---- Callsigns and locators

-- The character at a place of a capital form.
pub get_d_capitals : (bs : List ℕ) (i : ℕ) → get_or (capital_form bs) i 0 ≡ capital (get_or bs i 0)
unfolding capital
get_d_capitals bs i = get_or-map capital bs i 0

lengths_capitals : (callsign locator : List ℕ)
    → right_lengths (length (capital_form callsign)) (length (capital_form locator)) ≡ right_lengths (length callsign) (length locator)
lengths_capitals callsign locator = rw (length-map callsign capital, length-map locator capital)

first_bad_capitals : (place : ℕ) (bs : List ℕ) → first_bad place (capital_form bs) ≡ first_bad place bs
first_bad_capitals place bs = first_failing_map legal_at capital legal_capital place bs

pub digits_capitals : (place : ℕ) (bs : List ℕ) → digits_from place (capital_form bs) ≡ digits_from place bs
unfolding digits_from over_places
digits_capitals place [] = refl
digits_capitals place (b ∷ bs) = rw (digit_capital place b, digits_capitals (suc place) bs)

-- What is written of digits is in capitals.
pub characters_in_capitals : (place : ℕ) (ds : List ℕ) → capital_form (characters_from place ds) ≡ characters_from place ds
unfolding characters_from over_places character_at
characters_in_capitals place [] = refl
characters_in_capitals place (d ∷ ds) = rw (capital_character ((set_at place).lowest + d), characters_in_capitals (suc place) ds)

-- ---- Messages

pub checked_capitals : (callsign locator : List ℕ) (power : ℕ)
    → message_checked (capital_form callsign) (capital_form locator) power ≡ message_checked callsign locator power
unfolding message_checked
checked_capitals callsign locator power =
    rw (lengths_capitals callsign locator, ← map-append capital callsign locator, first_bad_capitals 0 (callsign ++ locator))

pub word_capitals : (callsign locator : List ℕ) (power : ℕ) → word_of (capital_form callsign) (capital_form locator) power ≡ word_of callsign locator power
unfolding word_of callsign_number locator_number
word_capitals callsign locator power = rw (digits_capitals 0 callsign, digits_capitals 6 locator)

pub packed_capitals : (callsign locator : List ℕ) (power : ℕ)
    → message_packed (capital_form callsign) (capital_form locator) power ≡ message_packed callsign locator power
unfolding message_packed
packed_capitals callsign locator power = rw (checked_capitals callsign locator power, word_capitals callsign locator power)

-- ---- What checking promises, from its answer

module _ (callsign locator : List ℕ) (power : ℕ) where
  -- What `check` promises of an answer, clause by clause.
  abbrev pub CheckPromised : Result (Unit {0}) Refusal → Type 0
  CheckPromised result = record {
    answer : result ≡ message_checked callsign locator power;
    numbers : check_numbers result ≡ check_numbers (message_checked callsign locator power);
    as_capitals : result ≡ message_checked (capital_form callsign) (capital_form locator) power;
  }

  pub check_promised : (result : Result (Unit {0}) Refusal) → message_checked callsign locator power ≡ result → CheckPromised result
  check_promised result e = record {
    answer = sym e;
    numbers = ap check_numbers (sym e);
    as_capitals = sym (checked_capitals callsign locator power ∙ e);
  }

  -- What `Message::checked` promises of a refusal.
  abbrev pub CheckedRefused : Refusal → Type 0
  CheckedRefused f = record {
    answer : Err f ≡ message_checked callsign locator power;
    numbers : check_numbers (Err f) ≡ check_numbers (message_checked callsign locator power);
    as_capitals : Err f ≡ message_checked (capital_form callsign) (capital_form locator) power;
    parts : Unit {0};
  }

  pub checked_refused : (f : Refusal) → message_checked callsign locator power ≡ Err f → CheckedRefused f
  checked_refused f e =
      let said = check_promised (Err f) e in
      record { answer = said.answer; numbers = said.numbers; as_capitals = said.as_capitals; parts = tt }
