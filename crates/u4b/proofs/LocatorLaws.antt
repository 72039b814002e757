-- Laws of the locator and power: the lower number in them and back, both ways, and that what is written is legal and in capitals.
use mathlib.Core.Path.{◌≡◌, refl}
use Prim.Native.Nat.{ℕ, ◌%◌, ◌<◌}
use native.Mathlib.Omega.{arith}
use mathlib.Core.Bool.{true}
use mathlib.Core.List.{List, [], ◌∷◌}
use lib.ListN.{length, get_or}
use Rattle.radix.specs.Numeral.{Digits, Positive, count, digits_of}
use Rattle.radix.proofs.Laws.{digits_in_range, digits_of_number_of, number_of_digits_of_mod}
use Rattle.power.specs.Powers.{power_index, legal_power}
use Rattle.power.proofs.Laws.{power_at_power_index, power_index_power_at, legal_index, legal_power_at}
use Rattle.message.specs.Character.{capital_form, set_at, callsign_sets, locator_sets, digits_from, DigitsAt}
use Rattle.message.proofs.CharacterLaws.{AllLegal, characters_of_digits, legal_of_digits, digits_of_characters, length_characters_from}
use Rattle.message.proofs.CapitalLaws.{characters_in_capitals}
use Rattle.message.proofs.WordLaws.{locator_in_sets}
use Rattle.u4b.specs.Characters.{lower_radices, locator_with, power_with, lower_of}

pub lower_positive : Positive lower_radices
unfolding Positive lower_radices
lower_positive = omega arith

pub lower_count : count lower_radices ≡ 615_600
unfolding count lower_radices
lower_count = refl

-- ---- The locator and power with a number

-- The digits at the four places, from those of the number.
abbrev pub four_digits : List ℕ → List ℕ
four_digits s = get_or s 0 0 ∷ get_or s 1 0 ∷ get_or s 2 0 ∷ get_or s 3 0 ∷ []

-- The number's digits, from those at the four places and the power's index.
abbrev five_digits : List ℕ → ℕ → List ℕ
five_digits d index = get_or d 0 0 ∷ get_or d 1 0 ∷ get_or d 2 0 ∷ get_or d 3 0 ∷ index ∷ []

-- The four digits are in their places' sets, and the fifth is an index.
pub four_digits_at : (b : ℕ) → DigitsAt 6 (four_digits (digits_of lower_radices b))
unfolding Digits DigitsAt digits_of set_at callsign_sets locator_sets lower_radices
four_digits_at b =
    let s = digits_in_range lower_radices b lower_positive in
    (s.0, (s.1.0, (s.1.1.0, (s.1.1.1.0, tt))))

pub index_below : (b : ℕ) → get_or (digits_of lower_radices b) 4 0 < 19
unfolding Digits digits_of lower_radices
index_below b = (digits_in_range lower_radices b lower_positive).1.1.1.1.0

pub locator_with_length : (b : ℕ) → length (locator_with b) ≡ 4
unfolding locator_with
locator_with_length b = length_characters_from 6 (four_digits (digits_of lower_radices b))

pub locator_with_legal : (b : ℕ) → AllLegal 6 (locator_with b)
unfolding locator_with
locator_with_legal b = legal_of_digits 6 _ (four_digits_at b)

pub locator_with_in_capitals : (b : ℕ) → capital_form (locator_with b) ≡ locator_with b
unfolding locator_with
locator_with_in_capitals b = characters_in_capitals 6 (four_digits (digits_of lower_radices b))

pub power_with_legal : (b : ℕ) → legal_power (power_with b) ≡ true
unfolding power_with
power_with_legal b = legal_power_at _ (index_below b)

-- The number in them is what was written of the number.
pub lower_of_locator_with : (b : ℕ) → lower_of (locator_with b) (power_with b) ≡ b % count lower_radices
unfolding locator_with power_with lower_of digits_of lower_radices
lower_of_locator_with b =
    rw (digits_of_characters 6 _ (four_digits_at b), power_index_power_at _ (index_below b)) (number_of_digits_of_mod lower_radices b lower_positive)

-- ---- The number in a locator and power

module _ (locator : List ℕ) (power : ℕ) (four : length locator ≡ 4) (legal : AllLegal 6 locator) (its_power_legal : legal_power power ≡ true) where
  pub lower_digits_in : Digits lower_radices (five_digits (digits_from 6 locator) (power_index power))
  unfolding Digits lower_radices
  lower_digits_in =
      let v = locator_in_sets locator four legal in
      (v.a, (v.b, (v.c, (v.d, (legal_index power its_power_legal, tt)))))

  its_digits : digits_of lower_radices (lower_of locator power) ≡ five_digits (digits_from 6 locator) (power_index power)
  unfolding lower_of
  its_digits = digits_of_number_of lower_radices _ lower_digits_in

  -- The number makes the locator, in capitals, and the power again.
  pub locator_with_lower_of : locator_with (lower_of locator power) ≡ capital_form locator
  unfolding locator_with
  locator_with_lower_of = rw (its_digits, ← (locator_in_sets locator four legal).all) (characters_of_digits 6 locator legal)

  pub power_with_lower_of : power_with (lower_of locator power) ≡ power
  unfolding power_with
  power_with_lower_of = rw its_digits (power_at_power_index power (legal_index power its_power_legal))
