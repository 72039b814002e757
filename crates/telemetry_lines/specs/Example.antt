-- 01's example: three lines, and the whole output for them.
use Rattle.std.specs.Prelude.{ℕ, List, [], ◌∷◌, ◌++◌}
use Prim.Native.String.{String}
use Rattle.basics.specs.Ascii.{bytes}
use Rattle.telemetry_lines.specs.Text.{newline}

-- Each line with a newline at its end.
unfoldable pub lines_of : List String → List ℕ
lines_of [] = []
lines_of (line ∷ lines) = bytes line ++ (newline ∷ lines_of lines)

unfoldable pub example_input : List ℕ
example_input = lines_of ("QQ2XFT GP99 60" ∷ "0Z0AAI RM31 33" ∷ "000AAA AA00 00" ∷ [])

unfoldable pub example_output : List ℕ
example_output =
    lines_of ("CH GR ALT TEMP MV KT GPS" ∷ "Q2 SK 12340 -15 4100 30 1" ∷ "refused 12 0" ∷ "refused 11 0" ∷ [])
