-- Laws of numbers as text, and the bounds of a line of output.
use mathlib.Core.Path.{◌≡◌, sym, ap, ◌∙◌}
use Prim.Native.Nat.{ℕ, zero, suc, ◌+◌, ◌/◌, ◌^◌, ◌≤◌, ◌<◌}
use native.Mathlib.Nat.{pow-suc}
use native.Mathlib.Omega.{arith}
use mathlib.Core.List.{List, [], ◌∷◌, ◌++◌, append_assoc}
use lib.Dec.{ltb}
use lib.IntN.{ℤ, pos, negsuc}
use lib.ListN.{length, length-append}
use mir.Syntax.{w32}
use mir.Val.{SFits}
use borrow.Author.Tests.{lt-ltb, le-ltb}
use Rattle.basics.specs.Ascii.{bytes}
use Rattle.std.proofs.lemmas.Fmt.{decimal_digit, decimal_step}
use Rattle.std.specs.Fmt.{decimal, signed_decimal}
use Rattle.basics.proofs.Choice.{cond_both, below_or_not}
use Rattle.telemetry.specs.declared.Reading.{Reading}
use Rattle.std.specs.Prelude.{Result, Ok, Err}
use Rattle.refusal.specs.declared.Refusal.{Refusal}
use Rattle.refusal.specs.Refusals.{refusal_number, refusal_place}
use Rattle.telemetry_lines.specs.Text.{newline, space, digit_character, decimal_of, decimal_text, integer_text, line_of, reading_text, refusal_text, answer_text, longest_line}

-- ---- Lengths

length_decimal_of : (most n : ℕ) → length (decimal_of most n) ≤ most
unfolding decimal_of
length_decimal_of zero n = omega arith
length_decimal_of (suc most) n =
    cond_both (λ (text : List ℕ). length text ≤ suc most) (ltb n 10) (omega arith)
    (simp length-append (omega (arith, length_decimal_of most (n / 10))))

pub length_decimal : (n : ℕ) → length (decimal_text n) ≤ 10
unfolding decimal_text
length_decimal n = length_decimal_of 10 n

pub length_integer : (z : ℤ) → length (integer_text z) ≤ 11
unfolding integer_text
length_integer (pos n) = omega (arith, length_decimal n)
length_integer (negsuc n) = omega (arith, length_decimal (suc n))

-- No line of output is longer than the longest.
length_reading : (r : Reading) → length (reading_text r) ≤ longest_line
unfolding reading_text line_of
length_reading r =
    let s = r.sensors in
    simp length-append
    (omega (
      arith,
      length_decimal s.altitude,
      length_integer s.temperature,
      length_decimal s.voltage,
      length_decimal s.speed,
      length_decimal s.gps,
    ))

length_refusal : (f : Refusal) → length (refusal_text f) ≤ longest_line
unfolding refusal_text line_of bytes
length_refusal f = simp length-append (omega (arith, length_decimal (refusal_number f), length_decimal (refusal_place f)))

pub length_answer : (a : Result Reading Refusal) → length (answer_text a) ≤ longest_line
unfolding answer_text
length_answer (Ok r) = length_reading r
length_answer (Err f) = length_refusal f

-- ---- Numbers as the library writes them

decimal_from : (k n : ℕ) → n < 10 ^ suc k → n < 2 ^ 64 → decimal n ≡ decimal_of (suc k) n
unfolding decimal_of digit_character
decimal_from zero n h small = rw (lt-ltb n 10 (omega arith)) (decimal_digit n (omega arith))
decimal_from (suc k) n h small =
    below_or_not n 10
    (λ one. rw (lt-ltb n 10 one) (decimal_digit n one))
    (λ more. rw (le-ltb n 10 more, decimal_step n more small, decimal_from k (n / 10) (omega (arith, pow-suc 10 (suc k))) (omega arith)))

decimal_is : (n : ℕ) → n < 2 ^ 32 → decimal n ≡ decimal_text n
unfolding decimal_text
decimal_is n h = decimal_from 9 n (omega arith) (omega arith)

integer_is : (z : ℤ) → SFits w32 z → signed_decimal z ≡ integer_text z
unfolding integer_text
integer_is (pos n) h = decimal_is n (omega (arith, h.sfits))
integer_is (negsuc n) h = rw (decimal_is (suc n) (omega (arith, h.sfits)))

-- ---- Words put one after the other

seven : (a b c d e f g : List ℕ) → (((((a ++ b) ++ c) ++ d) ++ e) ++ f) ++ g ≡ a ++ (b ++ (c ++ (d ++ (e ++ (f ++ g)))))
seven a b c d e f g = simp append_assoc

pub reading_words : (r : Reading)
    → r.sensors.altitude < 2 ^ 32 → SFits w32 r.sensors.temperature → r.sensors.voltage < 2 ^ 32 → r.sensors.speed < 2 ^ 32 → r.sensors.gps < 2 ^ 32
    → ((((((r.channel.first ∷ r.channel.third ∷ space ∷ r.square.grid5 ∷ r.square.grid6 ∷ []) ++ (space ∷ decimal r.sensors.altitude))
    ++ (space ∷ signed_decimal r.sensors.temperature)) ++ (space ∷ decimal r.sensors.voltage)) ++ (space ∷ decimal r.sensors.speed))
    ++ (space ∷ decimal r.sensors.gps)) ++ (newline ∷ [])
    ≡ reading_text r
unfolding reading_text line_of
reading_words r a t v s g =
    let n = r.sensors in
    rw (decimal_is n.altitude a, integer_is n.temperature t, decimal_is n.voltage v, decimal_is n.speed s, decimal_is n.gps g)
    (seven
    (r.channel.first ∷ r.channel.third ∷ space ∷ r.square.grid5 ∷ r.square.grid6 ∷ [])
    (space ∷ decimal_text n.altitude)
    (space ∷ integer_text n.temperature)
    (space ∷ decimal_text n.voltage)
    (space ∷ decimal_text n.speed)
    (space ∷ decimal_text n.gps)
    (newline ∷ []))

pub refusal_words : (f : Refusal) → refusal_number f < 2 ^ 32 → refusal_place f < 2 ^ 32
    → ((bytes "refused" ++ (space ∷ decimal (refusal_number f))) ++ (space ∷ decimal (refusal_place f))) ++ (newline ∷ []) ≡ refusal_text f
unfolding refusal_text line_of bytes
refusal_words f n p =
    rw (decimal_is (refusal_number f) n, decimal_is (refusal_place f) p)
    (append_assoc (bytes "refused" ++ (space ∷ decimal_text (refusal_number f))) (space ∷ decimal_text (refusal_place f)) (newline ∷ []))

-- ---- The same words behind what stands before

four_behind : (before a b c d : List ℕ) → (((before ++ a) ++ b) ++ c) ++ d ≡ before ++ (((a ++ b) ++ c) ++ d)
four_behind before a b c d = simp append_assoc

eight_behind : (before a b c d e f g h : List ℕ)
    → (((((((before ++ a) ++ b) ++ c) ++ d) ++ e) ++ f) ++ g) ++ h ≡ before ++ (((((((a ++ b) ++ c) ++ d) ++ e) ++ f) ++ g) ++ h)
eight_behind before a b c d e f g h = simp append_assoc

-- A number of one digit.
pub digit_behind : (before : List ℕ) (n : ℕ) → n < 10 → (before ++ (space ∷ [])) ++ ((48 + n) ∷ []) ≡ before ++ (space ∷ decimal n)
digit_behind before n h =
    append_assoc before (space ∷ []) ((48 + n) ∷ []) ∙ ap (λ (digits : List ℕ). before ++ (space ∷ digits)) (sym (decimal_digit n h))

pub reading_behind : (before : List ℕ) (r : Reading)
    → r.sensors.altitude < 2 ^ 32 → SFits w32 r.sensors.temperature → r.sensors.voltage < 2 ^ 32 → r.sensors.speed < 2 ^ 32 → r.sensors.gps < 2 ^ 32
    → (((((((before ++ (r.channel.first ∷ r.channel.third ∷ space ∷ [])) ++ (r.square.grid5 ∷ r.square.grid6 ∷ []))
    ++ (space ∷ decimal r.sensors.altitude)) ++ (space ∷ signed_decimal r.sensors.temperature)) ++ (space ∷ decimal r.sensors.voltage))
    ++ (space ∷ decimal r.sensors.speed)) ++ (space ∷ decimal r.sensors.gps)) ++ (newline ∷ [])
    ≡ before ++ reading_text r
reading_behind before r a t v s g =
    eight_behind before
    (r.channel.first ∷ r.channel.third ∷ space ∷ [])
    (r.square.grid5 ∷ r.square.grid6 ∷ [])
    (space ∷ decimal r.sensors.altitude)
    (space ∷ signed_decimal r.sensors.temperature)
    (space ∷ decimal r.sensors.voltage)
    (space ∷ decimal r.sensors.speed)
    (space ∷ decimal r.sensors.gps)
    (newline ∷ [])
    ∙ ap (λ (text : List ℕ). before ++ text) (reading_words r a t v s g)

pub refusal_behind : (before : List ℕ) (f : Refusal) → refusal_number f < 2 ^ 32 → refusal_place f < 2 ^ 32
    → (((before ++ bytes "refused") ++ (space ∷ decimal (refusal_number f))) ++ (space ∷ decimal (refusal_place f))) ++ (newline ∷ [])
    ≡ before ++ refusal_text f
refusal_behind before f n p =
    four_behind before (bytes "refused") (space ∷ decimal (refusal_number f)) (space ∷ decimal (refusal_place f)) (newline ∷ [])
    ∙ ap (λ (text : List ℕ). before ++ text) (refusal_words f n p)
