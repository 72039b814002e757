-- Two numbers in the characters and the power of a message, and back (01, 'Telemetry').
use Rattle.std.specs.Prelude.{ℕ, List, [], ◌∷◌, get_or}
use Rattle.radix.specs.Numeral.{number_of, digits_of}
use Rattle.power.specs.Powers.{power_index, power_at}
use Rattle.message.specs.Character.{character_at, digits_from, characters_from}
use Rattle.u4b.specs.declared.channel.Channel.{Channel}

-- ---- The upper number (01: A) in the callsign

-- "In places 5, 4, 3 stand A's three lowest base-26 digits (A = 0), lowest in place 5; the rest, 0 to 35, is place 1." Highest first, those
-- are the digits at places 1, 3, 4, 5.
unfoldable pub upper_radices : List ℕ
upper_radices = 36 ∷ 26 ∷ 26 ∷ 26 ∷ []

-- The callsign with the channel's first and third characters and the number.
unfoldable pub callsign_with : Channel → ℕ → List ℕ
callsign_with channel upper =
    let d = digits_of upper_radices upper in
    channel.first
    ∷ character_at 1 (get_or d 0 0)
    ∷ channel.third
    ∷ character_at 3 (get_or d 1 0)
    ∷ character_at 4 (get_or d 2 0)
    ∷ character_at 5 (get_or d 3 0)
    ∷ []

-- The number in a callsign: its digits, and what they write.
unfoldable pub upper_digits : List ℕ → List ℕ
upper_digits callsign =
    let d = digits_from 0 callsign in
    get_or d 1 0 ∷ get_or d 3 0 ∷ get_or d 4 0 ∷ get_or d 5 0 ∷ []

unfoldable pub upper_of : List ℕ → ℕ
upper_of callsign = number_of upper_radices (upper_digits callsign)

-- ---- The lower number (01: B) in the locator and the power

-- "B modulo 19 is the power index; then the locator digits from the right, modulo 10, 10, 18, 18." Highest first, those are the digits at
-- places 6 to 9 and the index.
unfoldable pub lower_radices : List ℕ
lower_radices = 18 ∷ 18 ∷ 10 ∷ 10 ∷ 19 ∷ []

-- The locator and the power with the number.
unfoldable pub locator_with : ℕ → List ℕ
locator_with lower =
    let d = digits_of lower_radices lower in
    characters_from 6 (get_or d 0 0 ∷ get_or d 1 0 ∷ get_or d 2 0 ∷ get_or d 3 0 ∷ [])

unfoldable pub power_with : ℕ → ℕ
power_with lower = power_at (get_or (digits_of lower_radices lower) 4 0)

-- The number in a locator and a power.
unfoldable pub lower_of : List ℕ → ℕ → ℕ
lower_of locator power =
    let d = digits_from 6 locator in
    number_of lower_radices (get_or d 0 0 ∷ get_or d 1 0 ∷ get_or d 2 0 ∷ get_or d 3 0 ∷ power_index power ∷ [])
