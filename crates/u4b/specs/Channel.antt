-- The two characters of a channel and the two letters of a sub-square (01, 'Telemetry'; 02, L4).
use Rattle.std.specs.Prelude.{ℕ, Bool, ◌||◌, List, eqb, get_or}
use Rattle.basics.specs.Test.{between}
use Rattle.message.specs.Character.{capital}
use Rattle.u4b.specs.declared.channel.Channel.{Channel}
use Rattle.u4b.specs.declared.channel.SubSquare.{SubSquare}
use Rattle.u4b.specs.declared.channel.FirstCharacters.{FirstCharacters}

-- "First character 0, 1 or Q": in ASCII 48, 49 and 81. That is what basic telemetry takes, the one kind that 01 has; other kinds take 0 and
-- Q alone.
unfoldable pub is_first_character : FirstCharacters → ℕ → Bool
is_first_character FirstCharacters.ZeroOneQ byte = eqb byte 48 || (eqb byte 49 || eqb byte 81)
is_first_character FirstCharacters.ZeroQ byte = eqb byte 48 || eqb byte 81

-- "and third character 0-9": 48 to 57
abbrev pub is_third_character : ℕ → Bool
is_third_character byte = between 48 57 byte

-- The channel of a callsign: its first and third character, as capitals.
abbrev pub channel_of : List ℕ → Channel
channel_of callsign = record { first = capital (get_or callsign 0 0); third = capital (get_or callsign 2 0) }

-- "Sub-square letters g5, g6 are A-X": 65 to 88
abbrev pub is_sub_square : ℕ → Bool
is_sub_square byte = between 65 88 byte

-- ---- Where an answer has none

abbrev pub no_channel : Channel
no_channel = record { first = 0; third = 0 }

abbrev pub no_sub_square : SubSquare
no_sub_square = record { grid5 = 0; grid6 = 0 }
