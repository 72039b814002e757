-- The 50-bit word of a message, and the message of a word (01, 'Word').
use Rattle.std.specs.Prelude.{ℕ, ◌+◌, ◌-◌, ◌*◌, ◌/◌, ◌%◌, ◌^◌, List, [], ◌∷◌, get_or}
use Rattle.radix.specs.Numeral.{number_of, digits_of}
use Rattle.message.specs.Character.{digits_from, characters_from}

-- ---- Writing

-- "N starts as place 0; then times 36 plus place 1; times 10 plus place 2; then three times: times 27 plus (value less 10)." The first
-- radix multiplies 0 only; 37 is how many characters place 0 takes.
unfoldable pub callsign_radices : List ℕ
callsign_radices = 37 ∷ 36 ∷ 10 ∷ 27 ∷ 27 ∷ 27 ∷ []

-- 01: N
unfoldable pub callsign_number : List ℕ → ℕ
callsign_number callsign = number_of callsign_radices (digits_from 0 callsign)

-- "With locator values a b c d, letters from A = 0: M1 = (179 - 10a - c)·180 + 10b + d". For legal values, a up to 17 and c up to 9,
-- no difference falls below 0.
unfoldable pub locator_number_from : ℕ → ℕ → ℕ → ℕ → ℕ
locator_number_from a b c d = (179 - 10 * a - c) * 180 + 10 * b + d

-- 01: M1
unfoldable pub locator_number : List ℕ → ℕ
locator_number locator =
    let v = digits_from 6 locator in
    locator_number_from (get_or v 0 0) (get_or v 1 0) (get_or v 2 0) (get_or v 3 0)

-- "M = M1·128 + power + 64"
unfoldable pub lower_number : ℕ → ℕ → ℕ
lower_number m1 power = m1 * 128 + power + 64

-- "The word is N·2^22 + M"
unfoldable pub word_from : ℕ → ℕ → ℕ
word_from n m = n * 2 ^ 22 + m

-- The word of a message.
unfoldable pub word_of : List ℕ → List ℕ → ℕ → ℕ
word_of callsign locator power = word_from (callsign_number callsign) (lower_number (locator_number locator) power)

-- ---- Reading: the word's parts

-- N, the upper 28 of the 50 bits
unfoldable pub callsign_part : ℕ → ℕ
callsign_part word = word / 2 ^ 22

-- M1, the 15 bits after them
unfoldable pub locator_part : ℕ → ℕ
locator_part word = word % 2 ^ 22 / 128

-- The low seven bits, the power plus 64
unfoldable pub power_part : ℕ → ℕ
power_part word = word % 128

-- ---- Reading: the characters of the parts

-- 01 gives no formulas for this direction. None has to be believed: the round trips that `pack` and `unpack` promise (RoundTrip.antt) leave no
-- other.

-- The callsign with the number N.
unfoldable pub callsign_with_number : ℕ → List ℕ
callsign_with_number n = characters_from 0 (digits_of callsign_radices n)

-- M1 is 17 - a, 9 - c, b, d in the radices 18, 10, 18, 10.
unfoldable pub locator_radices : List ℕ
locator_radices = 18 ∷ 10 ∷ 18 ∷ 10 ∷ []

-- a b c d, from those digits
unfoldable pub locator_values : List ℕ → List ℕ
locator_values ds = (17 - get_or ds 0 0) ∷ get_or ds 2 0 ∷ (9 - get_or ds 1 0) ∷ get_or ds 3 0 ∷ []

-- The locator with the number M1.
unfoldable pub locator_with_number : ℕ → List ℕ
locator_with_number m1 = characters_from 6 (locator_values (digits_of locator_radices m1))

-- The callsign of a word.
unfoldable pub callsign_of : ℕ → List ℕ
callsign_of word = callsign_with_number (callsign_part word)

-- The locator of a word.
unfoldable pub locator_of : ℕ → List ℕ
locator_of word = locator_with_number (locator_part word)
