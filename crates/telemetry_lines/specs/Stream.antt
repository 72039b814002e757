-- The output for an input of lines, in whole and in parts (01, 'Hut program and host').
use Rattle.std.specs.Prelude.{ℕ, cond, List, [], ◌∷◌, ◌++◌, eqb, take}
use Rattle.telemetry_lines.specs.Text.{newline, header}
use Rattle.telemetry_lines.specs.Line.{line_text}
use Rattle.telemetry_lines.specs.declared.line.Line.{Line}

-- "A newline ends a line". Where a line has begun with the given bytes and further input comes: the bytes of the line that is then begun,
unfoldable pub line_after : List ℕ → List ℕ → List ℕ
line_after line [] = line
line_after line (b ∷ bs) = cond (eqb b newline) (line_after [] bs) (line_after (line ++ (b ∷ [])) bs)

-- and what is written for the lines that have ended.
unfoldable pub output_after : List ℕ → List ℕ → List ℕ
output_after line [] = []
output_after line (b ∷ bs) = cond (eqb b newline) (line_text line ++ output_after [] bs) (output_after (line ++ (b ∷ [])) bs)

-- "the last may lack it": at the end of the input a line that has begun is a line too.
unfoldable pub last_text : List ℕ → List ℕ
last_text [] = []
last_text (b ∷ bs) = line_text (b ∷ bs)

-- "one line each after a header"
unfoldable pub output_of : List ℕ → List ℕ
output_of input = header ++ (output_after [] input ++ last_text (line_after [] input))

-- ---- The same output in parts

-- How many bytes are kept of a line: one more than a line of the right length has, so that a longer one is told from it.
abbrev pub most_kept : ℕ
most_kept = 15

-- The bytes that a line in the program's state holds.
abbrev pub held_by : Line → List ℕ
held_by line = line.kept.items

-- Where the input comes in parts, and of a line that is begun only its first 15 bytes are kept from one part to the next.
unfoldable pub output_in_parts : List ℕ → List (List ℕ) → List ℕ
output_in_parts line [] = last_text line
output_in_parts line (part ∷ parts) = output_after line part ++ output_in_parts (take most_kept (line_after line part)) parts
