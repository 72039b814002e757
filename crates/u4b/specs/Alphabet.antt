-- The characters that a kind of telemetry takes in a callsign, place by place (01, 'Refusal numbers'; 02, L4).
use Rattle.std.specs.Prelude.{ℕ, Bool, cond, not, ◌&&◌, ◌||◌, List, eqb, ltb}
use Rattle.basics.specs.Lists.{first_failing}
use Rattle.message.specs.Character.{capital}
use Rattle.u4b.specs.Channel.{is_first_character}
use Rattle.u4b.specs.declared.alphabet.Alphabet.{Alphabet}

-- A legal character is taken at its place, unless 10 names it: "first character isn't 0, 1, Q, or a space in places 3 to 5". So it is in
-- basic telemetry, the one kind that 01 has; a kind where a space may stand last takes it in place 5. A small letter is taken where its
-- capital is. In ASCII the space is 32.
unfoldable pub taken_at : Alphabet → ℕ → ℕ → Bool
taken_at alphabet place byte =
    cond (eqb place 0) (is_first_character alphabet.taken (capital byte))
    (ltb place 3 || ((eqb place 5 && alphabet.last_space) || not (eqb byte 32)))

-- The first place of a callsign whose character isn't taken there; past the last where there is none.
unfoldable pub first_not_taken : Alphabet → List ℕ → ℕ
first_not_taken alphabet callsign = first_failing (taken_at alphabet) 0 callsign
