-- The answer to a line (01, 'Hut program and host').
use Rattle.std.specs.Prelude.{ℕ, ◌+◌, ◌-◌, ◌*◌, Bool, cond, ◌&&◌, List, eqb, length, get_or, take, drop, Result, Err}
use Rattle.basics.specs.Test.{between}
use Rattle.telemetry.specs.Answer.{telemetry_read}
use Rattle.refusal.specs.declared.Refusal.{Refusal}
use Rattle.telemetry.specs.declared.Reading.{Reading}
use Rattle.telemetry_lines.specs.Text.{space, answer_text}

-- "lines of 14 bytes (call, space, locator, space, two power digits)". In ASCII, 0-9 are 48 to 57.
unfoldable pub has_form : List ℕ → Bool
has_form line =
    eqb (length line) 14
    && eqb (get_or line 6 0) space
    && eqb (get_or line 11 0) space
    && between 48 57 (get_or line 12 0)
    && between 48 57 (get_or line 13 0)

unfoldable pub callsign_in : List ℕ → List ℕ
callsign_in line = take 6 line

unfoldable pub locator_in : List ℕ → List ℕ
locator_in line = take 4 (drop 7 line)

-- The number that the two power digits write.
unfoldable pub power_in : List ℕ → ℕ
power_in line = (get_or line 12 0 - 48) * 10 + (get_or line 13 0 - 48)

-- "A line of another length, or with other separators or digits, is refusal 1"; any other has the answer of reading telemetry.
unfoldable pub line_answer : List ℕ → Result Reading Refusal
line_answer line =
    cond (has_form line) (telemetry_read (callsign_in line) (locator_in line) (power_in line)) (Err Refusal.WrongLength)

-- What is written for a line.
unfoldable pub line_text : List ℕ → List ℕ
line_text line = answer_text (line_answer line)
