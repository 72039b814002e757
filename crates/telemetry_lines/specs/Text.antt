-- Text in ASCII: numbers, the header, and the line that is written for an answer.
use Rattle.std.specs.Prelude.{ℕ, zero, suc, ◌+◌, ◌/◌, ◌%◌, cond, List, [], ◌∷◌, ◌++◌, ltb, ℤ, pos, negsuc, Result, Ok, Err}
use Rattle.basics.specs.Ascii.{bytes}
use Rattle.refusal.specs.declared.Refusal.{Refusal}
use Rattle.refusal.specs.Refusals.{refusal_number, refusal_place}
use Rattle.telemetry.specs.declared.Reading.{Reading}

-- ---- Characters

abbrev pub newline : ℕ
newline = 10

abbrev pub space : ℕ
space = 32

-- -
abbrev pub minus : ℕ
minus = 45

-- 0 to 9
unfoldable pub digit_character : ℕ → ℕ
digit_character d = 48 + d

-- ---- Numbers

-- A number in decimal, with no zeros in front: its last digits, at most so many as are asked for.
unfoldable pub decimal_of : ℕ → ℕ → List ℕ
decimal_of zero n = []
decimal_of (suc most) n =
    cond (ltb n 10) (digit_character n ∷ []) (decimal_of most (n / 10) ++ (digit_character (n % 10) ∷ []))

-- Ten digits hold every number of 32 bits.
unfoldable pub decimal_text : ℕ → List ℕ
decimal_text n = decimal_of 10 n

-- A negative number has a minus sign in front.
unfoldable pub integer_text : ℤ → List ℕ
integer_text (pos n) = decimal_text n
integer_text (negsuc n) = minus ∷ decimal_text (suc n)

-- ---- Lines of output

-- Words with single spaces between them, and a newline at the end.
unfoldable pub line_of : List (List ℕ) → List ℕ
line_of [] = newline ∷ []
line_of (w ∷ []) = w ++ (newline ∷ [])
line_of (w ∷ v ∷ ws) = w ++ (space ∷ line_of (v ∷ ws))

unfoldable pub header : List ℕ
header = line_of (bytes "CH GR ALT TEMP MV KT GPS" ∷ [])

-- The channel's characters, the letters of the sub-square, metres, degrees, millivolts, knots and GPS.
unfoldable pub reading_text : Reading → List ℕ
reading_text r =
    let s = r.sensors in
    line_of
    ((r.channel.first ∷ r.channel.third ∷ [])
    ∷ (r.square.grid5 ∷ r.square.grid6 ∷ [])
    ∷ decimal_text s.altitude
    ∷ integer_text s.temperature
    ∷ decimal_text s.voltage
    ∷ decimal_text s.speed
    ∷ decimal_text s.gps
    ∷ [])

-- "refused", the refusal's number and its place.
unfoldable pub refusal_text : Refusal → List ℕ
refusal_text f =
    line_of
    (bytes "refused"
    ∷ decimal_text (refusal_number f)
    ∷ decimal_text (refusal_place f)
    ∷ [])

unfoldable pub answer_text : Result Reading Refusal → List ℕ
answer_text (Ok r) = reading_text r
answer_text (Err f) = refusal_text f

-- No line of output is longer: there are five numbers of at most ten digits, one with a sign before it, and five other characters, with a
-- space before each number and the newline.
abbrev pub longest_line : ℕ
longest_line = 62
