-- The characters of a message: their capitals, their values, and the set of each of its ten places (01, 'Triple' and 'Word'; 02, L4).
use Rattle.std.specs.Prelude.{ℕ, suc, ◌+◌, ◌-◌, ◌<◌, Bool, cond, ◌&&◌, List, [], ◌∷◌, ◌++◌, map, eqb, leb, ltb, get_or}
use Rattle.basics.specs.Test.{between}
use Rattle.basics.specs.Lists.{first_failing}

-- ---- Capitals

-- "take a to z as their capitals": in ASCII, a-z are 97 to 122, each 32 after its capital. Any other byte is its own capital.
unfoldable pub capital : ℕ → ℕ
capital byte = cond (between 97 122 byte) (byte - 32) byte

-- The "capital form" of a callsign, a locator or a line
abbrev pub capital_form : List ℕ → List ℕ
capital_form bytes = map capital bytes

-- ---- Values

-- "Digits count 0-9, letters 10-35, space 36." The value of a character is that of its capital. In ASCII, 0-9 are 48 to 57, A-Z 65 to 90,
-- and the space is 32. A byte that is none of these has the value 37, which is in no set.
unfoldable pub value : ℕ → ℕ
value byte =
    let c = capital byte in
    cond (between 48 57 c) (c - 48)
    (cond (between 65 90 c) (c - 55)
    (cond (eqb c 32) 36 37))

-- The character that has a value from 0 to 36: a digit, a capital letter or the space. Above 36 it is the space too.
unfoldable pub character : ℕ → ℕ
character v =
    cond (ltb v 10) (v + 48)
    (cond (ltb v 36) (v + 55) 32)

-- ---- Sets

-- The characters whose values are `size` numbers from `lowest` on.
pub record CharacterSet : Type 0 where
  pub lowest : ℕ
  pub size : ℕ

-- 0-9, A-Z or space
abbrev pub digit_letter_or_space : CharacterSet
digit_letter_or_space = record { lowest = 0; size = 37 }

-- 0-9 or A-Z
abbrev pub digit_or_letter : CharacterSet
digit_or_letter = record { lowest = 0; size = 36 }

-- 0-9
abbrev pub decimal_digit : CharacterSet
decimal_digit = record { lowest = 0; size = 10 }

-- A-Z or space
abbrev pub letter_or_space : CharacterSet
letter_or_space = record { lowest = 10; size = 27 }

-- A-R
abbrev pub letter_to_r : CharacterSet
letter_to_r = record { lowest = 10; size = 18 }

-- "Callsign places 0 to 5: place 0 is 0-9, A-Z or space; place 1 is 0-9 or A-Z; place 2 is 0-9; places 3 to 5 are A-Z or space."
unfoldable pub callsign_sets : List CharacterSet
callsign_sets = digit_letter_or_space ∷ digit_or_letter ∷ decimal_digit ∷ letter_or_space ∷ letter_or_space ∷ letter_or_space ∷ []

-- "Locator places 6 and 7 are A-R, 8 and 9 are 0-9."
unfoldable pub locator_sets : List CharacterSet
locator_sets = letter_to_r ∷ letter_to_r ∷ decimal_digit ∷ decimal_digit ∷ []

-- The set of a place, 0 to 9; past them no character is legal.
unfoldable pub set_at : ℕ → CharacterSet
unfolding callsign_sets locator_sets
set_at place = get_or (callsign_sets ++ locator_sets) place (record { lowest = 0; size = 0 })

-- The byte is a character of its place's set.
unfoldable pub legal_at : ℕ → ℕ → Bool
legal_at place byte = leb (set_at place).lowest (value byte) && ltb (value byte) ((set_at place).lowest + (set_at place).size)

-- The first place, from the given one on, whose character is outside its set; past the last where there is none.
abbrev pub first_bad : ℕ → List ℕ → ℕ
first_bad place bytes = first_failing legal_at place bytes

-- ---- Digits: a character's value counted from its set's lowest

-- A character's digit at its place.
unfoldable pub digit_at : ℕ → ℕ → ℕ
digit_at place byte = value byte - (set_at place).lowest

-- The character of a digit at its place.
unfoldable pub character_at : ℕ → ℕ → ℕ
character_at place digit = character ((set_at place).lowest + digit)

-- f of each place and the element there, from the given place on.
unfoldable pub over_places : (ℕ → ℕ → ℕ) → ℕ → List ℕ → List ℕ
over_places f place [] = []
over_places f place (x ∷ xs) = f place x ∷ over_places f (suc place) xs

unfoldable pub digits_from : ℕ → List ℕ → List ℕ
digits_from place bytes = over_places digit_at place bytes

unfoldable pub characters_from : ℕ → List ℕ → List ℕ
characters_from place digits = over_places character_at place digits

-- Each digit is below its set's size.
unfoldable pub DigitsAt : ℕ → List ℕ → Type 0
DigitsAt place [] = Unit
DigitsAt place (d ∷ ds) = (d < (set_at place).size) × DigitsAt (suc place) ds
