-- Laws of the word: the callsign's and the locator's numbers and their characters, in capitals, are inverse to each other, and the word's
-- parts are those that it was made from.
use mathlib.Core.Path.{◌≡◌, refl, sym, ◌∙◌}
use Prim.Native.Nat.{ℕ, ◌+◌, ◌-◌, ◌^◌, ◌≤◌, ◌<◌}
use native.Mathlib.Omega.{arith}
use mathlib.Core.List.{List, [], ◌∷◌}
use lib.ListN.{length, get_or}
use Rattle.basics.specs.Lists.{tabulate}
use Rattle.basics.proofs.ListLaws.{by_places}
use Rattle.radix.specs.Numeral.{Digits, Positive, count, number_from, number_of, digits_of}
use Rattle.radix.proofs.Laws.{number_below, digits_in_range, digits_of_number_of, number_of_digits_of}
use Rattle.message.specs.Character.{capital_form, set_at, callsign_sets, locator_sets, DigitsAt, digits_from}
use Rattle.message.specs.Word.{callsign_radices, callsign_number, locator_number_from, locator_number, lower_number, word_from, callsign_part, locator_part, power_part, locator_radices, locator_values, callsign_with_number, locator_with_number}
use Rattle.message.proofs.CharacterLaws.{AllLegal, sizes_from, digits_of_legal, characters_of_digits, legal_of_digits, digits_of_characters, digits_in_sizes, digit_below, length_digits_from, length_characters_from}

-- ---- The callsign's number

pub callsign_positive : Positive callsign_radices
unfolding Positive callsign_radices
callsign_positive = omega arith

pub callsign_count : count callsign_radices ≡ 262_177_560
unfolding count callsign_radices
callsign_count = refl

pub callsign_digits : (callsign : List ℕ) → length callsign ≡ 6 → AllLegal 0 callsign → Digits callsign_radices (digits_from 0 callsign)
unfolding sizes_from set_at callsign_sets locator_sets callsign_radices
callsign_digits callsign six legal =
    digits_in_sizes 0 6 (digits_from 0 callsign) (length_digits_from 0 callsign ∙ six) (digits_of_legal 0 callsign legal)

pub callsign_number_below : (callsign : List ℕ) → length callsign ≡ 6 → AllLegal 0 callsign → callsign_number callsign < 262_177_560
unfolding callsign_number
callsign_number_below callsign six legal =
    rw (← callsign_count) (number_below callsign_radices _ (callsign_digits callsign six legal))

pub callsign_with_number_callsign_number : (callsign : List ℕ) → length callsign ≡ 6 → AllLegal 0 callsign → callsign_with_number (callsign_number callsign) ≡ capital_form callsign
unfolding callsign_with_number callsign_number
callsign_with_number_callsign_number callsign six legal =
    rw (digits_of_number_of callsign_radices (digits_from 0 callsign) (callsign_digits callsign six legal)) (characters_of_digits 0 callsign legal)

-- The digits of a number are in their places' sets.
pub callsign_digits_at : (n : ℕ) → DigitsAt 0 (digits_of callsign_radices n)
unfolding Digits DigitsAt digits_of set_at callsign_sets locator_sets callsign_radices
callsign_digits_at n = digits_in_range callsign_radices n callsign_positive

pub callsign_with_number_length : (n : ℕ) → length (callsign_with_number n) ≡ 6
unfolding callsign_with_number digits_of callsign_radices
callsign_with_number_length n = length_characters_from 0 (digits_of callsign_radices n)

pub callsign_with_number_legal : (n : ℕ) → AllLegal 0 (callsign_with_number n)
unfolding callsign_with_number
callsign_with_number_legal n = legal_of_digits 0 (digits_of callsign_radices n) (callsign_digits_at n)

pub callsign_number_callsign_with_number : (n : ℕ) → n < 262_177_560 → callsign_number (callsign_with_number n) ≡ n
unfolding callsign_with_number callsign_number
callsign_number_callsign_with_number n h =
    rw (digits_of_characters 0 (digits_of callsign_radices n) (callsign_digits_at n))
    (number_of_digits_of callsign_radices callsign_positive (rw callsign_count h))

-- ---- The locator's number

pub locator_positive : Positive locator_radices
unfolding Positive locator_radices
locator_positive = omega arith

pub locator_count : count locator_radices ≡ 32_400
unfolding count locator_radices
locator_count = refl

-- The digits of M1, from a b c d.
abbrev pub locator_digits : List ℕ → List ℕ
locator_digits vs = (17 - get_or vs 0 0) ∷ (9 - get_or vs 2 0) ∷ get_or vs 1 0 ∷ get_or vs 3 0 ∷ []

-- Four values, each below the size of its set.
pub record InSets (vs : List ℕ) : Type 0 where
  pub a : get_or vs 0 0 < 18
  pub b : get_or vs 1 0 < 18
  pub c : get_or vs 2 0 < 10
  pub d : get_or vs 3 0 < 10
  pub all : vs ≡ get_or vs 0 0 ∷ get_or vs 1 0 ∷ get_or vs 2 0 ∷ get_or vs 3 0 ∷ []

in_sets : (vs : List ℕ) → length vs ≡ 4 → DigitsAt 6 vs → InSets vs
unfolding tabulate set_at callsign_sets locator_sets
in_sets vs four ds =
    record {
      a = digit_below 6 vs 0 ds (omega arith);
      b = digit_below 6 vs 1 ds (omega arith);
      c = digit_below 6 vs 2 ds (omega arith);
      d = digit_below 6 vs 3 ds (omega arith);
      all = by_places 4 vs four;
    }

pub locator_in_sets : (locator : List ℕ) → length locator ≡ 4 → AllLegal 6 locator → InSets (digits_from 6 locator)
locator_in_sets locator four legal =
    in_sets (digits_from 6 locator) (length_digits_from 6 locator ∙ four) (digits_of_legal 6 locator legal)

pub locator_digits_in_range : (vs : List ℕ) → InSets vs → Digits locator_radices (locator_digits vs)
unfolding Digits locator_radices
locator_digits_in_range vs v = omega arith

-- 01's formula is the number of those digits.
pub locator_number_digits : (locator : List ℕ) → length locator ≡ 4 → AllLegal 6 locator
    → locator_number locator ≡ number_of locator_radices (locator_digits (digits_from 6 locator))
unfolding locator_number locator_number_from number_of number_from locator_radices
locator_number_digits locator four legal =
    let v = locator_in_sets locator four legal in
    omega arith

pub locator_number_below : (locator : List ℕ) → length locator ≡ 4 → AllLegal 6 locator → locator_number locator < 32_400
locator_number_below locator four legal =
    let vs = digits_from 6 locator in
    omega (
      arith,
      locator_number_digits locator four legal,
      locator_count,
      number_below locator_radices (locator_digits vs) (locator_digits_in_range vs (locator_in_sets locator four legal)),
    )

locator_values_locator_digits : (vs : List ℕ) → InSets vs → locator_values (locator_digits vs) ≡ vs
unfolding locator_values
locator_values_locator_digits vs v =
    let a : 17 - (17 - get_or vs 0 0) ≡ get_or vs 0 0 = omega (arith, v.a) in
    let c : 9 - (9 - get_or vs 2 0) ≡ get_or vs 2 0 = omega (arith, v.c) in
    rw (a, c) (sym v.all)

pub locator_with_number_locator_number : (locator : List ℕ) → length locator ≡ 4 → AllLegal 6 locator → locator_with_number (locator_number locator) ≡ capital_form locator
unfolding locator_with_number
locator_with_number_locator_number locator four legal =
    let vs = digits_from 6 locator in
    let v = locator_in_sets locator four legal in
    rw (locator_number_digits locator four legal, digits_of_number_of locator_radices (locator_digits vs) (locator_digits_in_range vs v), locator_values_locator_digits vs v)
    (characters_of_digits 6 locator legal)

-- The values of a number are in their places' sets.
pub locator_values_at : (n : ℕ) → DigitsAt 6 (locator_values (digits_of locator_radices n))
unfolding Digits DigitsAt digits_of locator_values set_at callsign_sets locator_sets locator_radices
locator_values_at n =
    let ds = digits_in_range locator_radices n locator_positive in
    omega arith

pub locator_with_number_length : (n : ℕ) → length (locator_with_number n) ≡ 4
unfolding locator_with_number locator_values
locator_with_number_length n = length_characters_from 6 (locator_values (digits_of locator_radices n))

pub locator_with_number_legal : (n : ℕ) → AllLegal 6 (locator_with_number n)
unfolding locator_with_number
locator_with_number_legal n = legal_of_digits 6 (locator_values (digits_of locator_radices n)) (locator_values_at n)

complement_twice : (x y b d : ℕ) → x < 18 → y < 10 → locator_digits (locator_values (x ∷ y ∷ b ∷ d ∷ [])) ≡ x ∷ y ∷ b ∷ d ∷ []
unfolding locator_values
complement_twice x y b d h k =
    let a : 17 - (17 - x) ≡ x = omega arith in
    let c : 9 - (9 - y) ≡ y = omega arith in
    rw (a, c)

locator_digits_locator_values : (n : ℕ) → locator_digits (locator_values (digits_of locator_radices n)) ≡ digits_of locator_radices n
unfolding Digits digits_of locator_radices
locator_digits_locator_values n =
    let ds = digits_in_range locator_radices n locator_positive in
    complement_twice _ _ _ _ ds.0 ds.1.0

pub locator_number_locator_with_number : (n : ℕ) → n < 32_400 → locator_number (locator_with_number n) ≡ n
unfolding locator_with_number
locator_number_locator_with_number n h =
    let vs = locator_values (digits_of locator_radices n) in
    locator_number_digits (locator_with_number n) (locator_with_number_length n) (locator_with_number_legal n)
    ∙ rw (digits_of_characters 6 vs (locator_values_at n), locator_digits_locator_values n)
    (number_of_digits_of locator_radices locator_positive (rw locator_count h))

-- ---- The word's parts

module _ (n m1 power : ℕ) (locator : m1 < 32_400) (legal : power ≤ 60) where
  pub callsign_part_word : callsign_part (word_from n (lower_number m1 power)) ≡ n
  unfolding callsign_part word_from lower_number
  callsign_part_word = omega arith

  pub locator_part_word : locator_part (word_from n (lower_number m1 power)) ≡ m1
  unfolding locator_part word_from lower_number
  locator_part_word = omega arith

  pub power_part_word : power_part (word_from n (lower_number m1 power)) ≡ power + 64
  unfolding power_part word_from lower_number
  power_part_word = omega arith

  -- "M .., at most 4,147,196"
  lower_number_most : lower_number m1 power ≤ 4_147_196
  unfolding lower_number
  lower_number_most = omega arith

  pub word_below : n < 262_177_560 → word_from n (lower_number m1 power) < 2 ^ 50
  unfolding word_from lower_number
  word_below h = omega arith

pub word_of_parts : (word : ℕ) → 64 ≤ power_part word
    → word_from (callsign_part word) (lower_number (locator_part word) (power_part word - 64)) ≡ word
unfolding callsign_part locator_part power_part word_from lower_number
word_of_parts word h = omega arith
