-- Laws of the callsign: the channel and the upper number in it and back, both ways, and that what is written is legal, taken and in
-- capitals.
use mathlib.Core.Path.{◌≡◌, refl, sym, ap, ◌∙◌, subst}
use Prim.Native.Nat.{ℕ, ◌+◌, ◌%◌, ◌≤◌, ◌<◌}
use native.Mathlib.Omega.{arith}
use mathlib.Core.Bool.{true, true≢false, not}
use mathlib.Core.List.{List, [], ◌∷◌}
use lib.Dec.{eqb}
use lib.ListN.{length, get_or, set}
use borrow.Author.Tests.{eqb-true, eq-eqb, ne_eqb}
use Rattle.basics.specs.Lists.{tabulate}
use Rattle.basics.proofs.Choice.{by_test, equal_or_not, between_true, between_range}
use Rattle.basics.proofs.ListLaws.{AllPass, all_pass, none_fails, by_places}
use Rattle.radix.specs.Numeral.{Digits, Positive, count, number_of, digits_of}
use Rattle.radix.proofs.Laws.{digits_in_range, digits_of_number_of, number_of_digits_of_mod}
use Rattle.message.specs.Character.{capital, capital_form, value, character, set_at, callsign_sets, locator_sets, legal_at, digit_at, character_at, over_places, digits_from, characters_from, DigitsAt}
use Rattle.message.proofs.CharacterLaws.{AllLegal, capital_before, capital_no_letter, value_digit, character_digit, character_letter, character_space, character_value, legal_from, legal_end, digits_of_legal, characters_of_digits, legal_of_digits, digits_of_characters}
use Rattle.message.proofs.CapitalLaws.{characters_in_capitals}
use Rattle.u4b.specs.Channel.{is_first_character, is_third_character, channel_of}
use Rattle.u4b.specs.Alphabet.{taken_at, first_not_taken}
use Rattle.u4b.specs.Characters.{upper_radices, callsign_with, upper_digits, upper_of}
use Rattle.u4b.specs.Answer.{payload_alphabet}
use Rattle.u4b.specs.declared.channel.Channel.{Channel}
use Rattle.u4b.specs.declared.channel.FirstCharacters.{FirstCharacters}

-- ---- The radices

pub upper_positive : Positive upper_radices
unfolding Positive upper_radices
upper_positive = omega arith

pub upper_count : count upper_radices ≡ 632_736
unfolding count upper_radices
upper_count = refl

-- ---- The channel's characters

-- What holds of 0, 1 and Q holds of any first character that is taken.
first_cases : (P : ℕ → Type 0) (taken : FirstCharacters) (byte : ℕ) → is_first_character taken byte ≡ true → P 48 → P 49 → P 81 → P byte
unfolding is_first_character
first_cases P FirstCharacters.ZeroOneQ byte e p q r =
    by_test (eqb byte 48) (λ t. subst P (sym (eqb-true byte 48 t)) p)
    (λ f. by_test (eqb byte 49) (λ t. subst P (sym (eqb-true byte 49 t)) q)
    (λ g. subst P (sym (eqb-true byte 81 (rw (f, g) at e))) r))
first_cases P FirstCharacters.ZeroQ byte e p q r =
    by_test (eqb byte 48) (λ t. subst P (sym (eqb-true byte 48 t)) p)
    (λ f. subst P (sym (eqb-true byte 81 (rw f at e))) r)

-- The channel's characters are legal at their places, and their own capitals.
pub first_legal : (taken : FirstCharacters) (byte : ℕ) → is_first_character taken byte ≡ true → legal_at 0 byte ≡ true
unfolding legal_at value capital set_at callsign_sets locator_sets
first_legal taken byte e = first_cases (λ b. legal_at 0 b ≡ true) taken byte e refl refl refl

first_capital : (taken : FirstCharacters) (byte : ℕ) → is_first_character taken byte ≡ true → capital byte ≡ byte
unfolding capital
first_capital taken byte e = first_cases (λ b. capital b ≡ b) taken byte e refl refl refl

third_capital : (byte : ℕ) → is_third_character byte ≡ true → capital byte ≡ byte
third_capital byte e =
    let r = between_range 48 57 byte e in
    capital_before (omega arith)

pub third_legal : (byte : ℕ) → is_third_character byte ≡ true → legal_at 2 byte ≡ true
unfolding set_at callsign_sets locator_sets
third_legal byte e =
    let r = between_range 48 57 byte e in
    let c = third_capital byte e in
    let v = value_digit byte (omega arith) (omega arith) in
    legal_from 2 byte (omega arith) (omega arith)

-- A legal third character is a digit, and so its own capital.
third_of_legal : (byte : ℕ) → legal_at 2 byte ≡ true → (capital byte ≡ byte) × (is_third_character (capital byte) ≡ true)
unfolding set_at callsign_sets locator_sets
third_of_legal byte e =
    let below : value byte < 10 = legal_end 2 byte e in
    let digit : capital byte ≡ value byte + 48 = sym (character_value byte (omega arith)) ∙ character_digit below in
    (sym (capital_no_letter byte (omega arith)), between_true 48 57 (capital byte) (omega arith) (omega arith))

-- Every character of a callsign is taken at its place.
abbrev AllTaken : FirstCharacters → List ℕ → Type 0
AllTaken taken callsign = AllPass (taken_at (payload_alphabet taken)) 0 callsign

-- ---- The callsign with a number

-- The digits at the six places, from those of the number. Places 0 and 2 are the channel's.
abbrev pub six_digits : List ℕ → List ℕ
six_digits d = 0 ∷ get_or d 0 0 ∷ 0 ∷ get_or d 1 0 ∷ get_or d 2 0 ∷ get_or d 3 0 ∷ []

-- They are in their places' sets.
pub six_digits_at : (a : ℕ) → DigitsAt 0 (six_digits (digits_of upper_radices a))
unfolding Digits DigitsAt digits_of set_at callsign_sets locator_sets upper_radices
six_digits_at a =
    let d = digits_in_range upper_radices a upper_positive in
    (omega arith, (d.0, (omega arith, (omega arith, (omega arith, (omega arith, tt))))))

-- A letter is no space.
no_space : (v : ℕ) → 10 ≤ v → v < 36 → not (eqb (character v) 32) ≡ true
no_space v h k = rw (character_letter h k, ne_eqb (v + 55) 32 (λ e. omega arith))

module _ (channel : Channel) (a : ℕ) where
  pub callsign_with_length : length (callsign_with channel a) ≡ 6
  unfolding callsign_with
  callsign_with_length = refl

  -- The callsign is the characters of those digits, but for the channel's.
  pub callsign_with_characters : callsign_with channel a ≡ set (set (characters_from 0 (six_digits (digits_of upper_radices a))) 0 channel.first) 2 channel.third
  unfolding callsign_with characters_from over_places
  callsign_with_characters = refl

  -- The number in it is what was written of the number.
  pub upper_of_callsign_with : upper_of (callsign_with channel a) ≡ a % count upper_radices
  unfolding callsign_with upper_of upper_digits characters_from digits_from over_places digits_of upper_radices
  upper_of_callsign_with =
      ap (λ (d : List ℕ). number_of upper_radices (get_or d 1 0 ∷ get_or d 3 0 ∷ get_or d 4 0 ∷ get_or d 5 0 ∷ [])) (digits_of_characters 0 _ (six_digits_at a))
      ∙ number_of_digits_of_mod upper_radices a upper_positive

  pub callsign_with_legal : legal_at 0 channel.first ≡ true → legal_at 2 channel.third ≡ true → AllLegal 0 (callsign_with channel a)
  unfolding AllPass callsign_with characters_from over_places
  callsign_with_legal taken third =
      let characters = legal_of_digits 0 _ (six_digits_at a) in
      (taken, (characters.1.0, (third, characters.1.1.1)))

  module _ (taken : FirstCharacters) (is_first : is_first_character taken channel.first ≡ true) where
    pub callsign_with_in_capitals : is_third_character channel.third ≡ true → capital_form (callsign_with channel a) ≡ callsign_with channel a
    unfolding callsign_with characters_from over_places
    callsign_with_in_capitals is_third =
        rw (first_capital taken channel.first is_first, third_capital channel.third is_third)
        (ap (λ (l : List ℕ). channel.first ∷ get_or l 1 0 ∷ channel.third ∷ get_or l 3 0 ∷ get_or l 4 0 ∷ get_or l 5 0 ∷ [])
        (characters_in_capitals 0 (six_digits (digits_of upper_radices a))))

    pub channel_of_callsign_with : is_third_character channel.third ≡ true → channel_of (callsign_with channel a) ≡ channel
    unfolding callsign_with
    channel_of_callsign_with is_third = rw (first_capital taken channel.first is_first, third_capital channel.third is_third)

    all_taken : AllTaken taken (callsign_with channel a)
    unfolding AllPass Digits taken_at callsign_with character_at digits_of set_at callsign_sets locator_sets upper_radices
    all_taken =
        let p = digits_in_range upper_radices a upper_positive in (
          rw (first_capital taken channel.first is_first) is_first,
          (
            refl,
            (
              refl,
              (no_space _ (omega arith) (omega arith), (no_space _ (omega arith) (omega arith), (no_space _ (omega arith) (omega arith), tt))),
            ),
          ),
        )

    pub callsign_with_taken : first_not_taken (payload_alphabet taken) (callsign_with channel a) ≡ 6
    unfolding first_not_taken
    callsign_with_taken = omega (arith, none_fails (taken_at (payload_alphabet taken)) 0 _ all_taken, callsign_with_length)

-- ---- The channel and the number in a callsign

-- A legal character that is no space has a value below the space's.
below_space : (byte : ℕ) → value byte < 37 → not (eqb byte 32) ≡ true → value byte < 36
below_space byte h e =
    equal_or_not (value byte) 36
    (λ same. let space : capital byte ≡ 32 = sym (character_value byte h) ∙ ap character same ∙ character_space (omega arith) in
    absurd (true≢false (sym e ∙ ap not (eq-eqb byte 32 (capital_no_letter byte (omega arith) ∙ space)))))
    (λ other. omega arith)

module _ (c0 c1 c2 c3 c4 c5 : ℕ) where
  abbrev callsign : List ℕ
  callsign = c0 ∷ c1 ∷ c2 ∷ c3 ∷ c4 ∷ c5 ∷ []

  module _ (taken : FirstCharacters) (legal : AllLegal 0 callsign) (all_taken : AllTaken taken callsign) where
    digits_in : Digits upper_radices (upper_digits callsign)
    unfolding AllPass Digits DigitsAt taken_at legal_at upper_digits digits_from over_places digit_at set_at callsign_sets locator_sets upper_radices
    digits_in =
        let d = digits_of_legal 0 callsign legal in
        let v3 = legal_end 3 c3 legal.1.1.1.0 in
        let v4 = legal_end 4 c4 legal.1.1.1.1.0 in
        let v5 = legal_end 5 c5 legal.1.1.1.1.1.0 in
        let b3 = below_space c3 v3 all_taken.1.1.1.0 in
        let b4 = below_space c4 v4 all_taken.1.1.1.1.0 in
        let b5 = below_space c5 v5 all_taken.1.1.1.1.1.0 in
        (d.1.0, (omega arith, (omega arith, (omega arith, tt))))

    callsign_again : callsign_with (record { first = capital c0; third = capital c2 }) (upper_of callsign) ≡ capital_form callsign
    unfolding callsign_with upper_of upper_digits characters_from digits_from over_places
    callsign_again =
        rw (digits_of_number_of upper_radices (upper_digits callsign) digits_in)
        (ap (λ (l : List ℕ). capital c0 ∷ get_or l 1 0 ∷ capital c2 ∷ get_or l 3 0 ∷ get_or l 4 0 ∷ get_or l 5 0 ∷ []) (characters_of_digits 0 callsign legal))

module _ (callsign : List ℕ) (six : length callsign ≡ 6) where
  -- A callsign, character by character.
  its_characters : callsign
      ≡ get_or callsign 0 0 ∷ get_or callsign 1 0 ∷ get_or callsign 2 0 ∷ get_or callsign 3 0 ∷ get_or callsign 4 0 ∷ get_or callsign 5 0 ∷ []
  unfolding tabulate
  its_characters = by_places 6 callsign six

  -- The third character is its own capital, and in range.
  pub third_of : AllLegal 0 callsign → (capital (get_or callsign 2 0) ≡ get_or callsign 2 0) × (is_third_character (capital (get_or callsign 2 0)) ≡ true)
  unfolding AllPass
  third_of legal = third_of_legal _ (subst (AllLegal 0) its_characters legal).1.1.0

  module _ (taken : FirstCharacters) (legal : AllLegal 0 callsign) (none : 6 ≤ first_not_taken (payload_alphabet taken) callsign) where
    its_taken : AllTaken taken callsign
    unfolding first_not_taken
    its_taken = all_pass (taken_at (payload_alphabet taken)) 0 callsign (omega arith)

    -- The first character, as its capital, is in range.
    pub first_of : is_first_character taken (capital (get_or callsign 0 0)) ≡ true
    unfolding taken_at AllPass
    first_of = (subst (AllTaken taken) its_characters its_taken).0

    pub upper_digits_in : Digits upper_radices (upper_digits callsign)
    upper_digits_in =
        subst (λ (l : List ℕ). Digits upper_radices (upper_digits l)) (sym its_characters)
        (digits_in _ _ _ _ _ _ taken (subst (AllLegal 0) its_characters legal) (subst (AllTaken taken) its_characters its_taken))

    -- The channel's characters and the number make the callsign again, in capitals.
    pub callsign_with_upper_of : callsign_with (channel_of callsign) (upper_of callsign) ≡ capital_form callsign
    callsign_with_upper_of =
        subst (λ (l : List ℕ). callsign_with (channel_of l) (upper_of l) ≡ capital_form l) (sym its_characters)
        (callsign_again _ _ _ _ _ _ taken (subst (AllLegal 0) its_characters legal) (subst (AllTaken taken) its_characters its_taken))
