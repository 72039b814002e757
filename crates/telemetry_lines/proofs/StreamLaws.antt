-- Laws of an input in parts: cutting it anywhere changes nothing, nor do small letters, its output has room, and one turn of the loop over
-- it.
use mathlib.Core.Path.{◌≡◌, refl, sym, ap, ◌∙◌}
use Prim.Native.Nat.{ℕ, ◌+◌, ◌*◌, ◌≤◌, ◌<◌}
use native.Mathlib.Numerals.{add-one}
use native.Mathlib.Omega.{arith}
use mathlib.Core.List.{List, [], ◌∷◌, ◌++◌, append_assoc, append-nil, map-append, flatten}
use lib.Dec.{eqb}
use lib.ListN.{length, get_or, take, length-append}
use lib.Seq.{take-suc, take_all, take-take, length-take-le}
use borrow.Author.Tests.{eq-eqb, ne_eqb}
use Rattle.basics.proofs.Choice.{by_test, cond_both}
use Rattle.message.specs.Character.{capital, capital_form}
use Rattle.message.proofs.CharacterLaws.{capital_test}
use Rattle.telemetry_lines.specs.Text.{newline, answer_text, header, longest_line}
use Rattle.telemetry_lines.specs.Line.{line_answer, line_text}
use Rattle.telemetry_lines.specs.Stream.{most_kept, line_after, output_after, last_text, output_of, output_in_parts}
use Rattle.telemetry_lines.proofs.TextLaws.{length_answer}
use Rattle.telemetry_lines.proofs.LineLaws.{line_capitals, kept_text, kept_more}

-- ---- Two parts, one after the other

line_cut : (line xs ys : List ℕ) → line_after line (xs ++ ys) ≡ line_after (line_after line xs) ys
unfolding line_after
line_cut line [] ys = refl
line_cut line (x ∷ xs) ys =
    by_test (eqb x newline)
    (λ e. rw e (line_cut [] xs ys))
    (λ e. rw e (line_cut (line ++ (x ∷ [])) xs ys))

output_cut : (line xs ys : List ℕ) → output_after line (xs ++ ys) ≡ output_after line xs ++ output_after (line_after line xs) ys
unfolding line_after output_after
output_cut line [] ys = refl
output_cut line (x ∷ xs) ys =
    by_test (eqb x newline)
    (λ e. rw (e, output_cut [] xs ys) (sym (append_assoc (line_text line) (output_after [] xs) (output_after (line_after [] xs) ys))))
    (λ e. rw e (output_cut (line ++ (x ∷ [])) xs ys))

-- ---- Small letters count as their capitals

newline_test : (b : ℕ) → eqb (capital b) newline ≡ eqb b newline
newline_test b = capital_test (λ (c : ℕ). eqb c newline) (λ c h. ne_eqb c newline (λ e. omega arith)) b

line_begun_capitals : (line xs : List ℕ) → line_after (capital_form line) (capital_form xs) ≡ capital_form (line_after line xs)
unfolding line_after
line_begun_capitals line [] = refl
line_begun_capitals line (x ∷ xs) =
    by_test (eqb x newline)
    (λ e. rw (newline_test x, e) (line_begun_capitals [] xs))
    (λ e. rw (newline_test x, e, ← map-append capital line (x ∷ [])) (line_begun_capitals (line ++ (x ∷ [])) xs))

text_capitals : (line : List ℕ) → line_text (capital_form line) ≡ line_text line
unfolding line_text
text_capitals line = ap answer_text (line_capitals line)

output_after_capitals : (line xs : List ℕ) → output_after (capital_form line) (capital_form xs) ≡ output_after line xs
unfolding output_after
output_after_capitals line [] = refl
output_after_capitals line (x ∷ xs) =
    by_test (eqb x newline)
    (λ e. rw (newline_test x, e, text_capitals line, output_after_capitals [] xs))
    (λ e. rw (newline_test x, e, ← map-append capital line (x ∷ [])) (output_after_capitals (line ++ (x ∷ [])) xs))

last_capitals : (line : List ℕ) → last_text (capital_form line) ≡ last_text line
unfolding last_text
last_capitals [] = refl
last_capitals (b ∷ bs) = text_capitals (b ∷ bs)

-- The output for an input is that for its capital form.
pub output_capitals : (input : List ℕ) → output_of (capital_form input) ≡ output_of input
unfolding output_of
output_capitals input =
    rw (output_after_capitals [] input, line_begun_capitals [] input, last_capitals (line_after [] input))

-- ---- One byte more

line_newline : (line : List ℕ) (b : ℕ) → b ≡ newline → line_after line (b ∷ []) ≡ []
unfolding line_after
line_newline line b e = rw (eq-eqb b newline e)

output_newline : (line : List ℕ) (b : ℕ) → b ≡ newline → output_after line (b ∷ []) ≡ line_text line
unfolding output_after
output_newline line b e = rw (eq-eqb b newline e) (append-nil (line_text line))

line_other : (line : List ℕ) (b : ℕ) → (b ≡ newline → ⊥) → line_after line (b ∷ []) ≡ line ++ (b ∷ [])
unfolding line_after
line_other line b h = rw (ne_eqb b newline h)

output_other : (line : List ℕ) (b : ℕ) → (b ≡ newline → ⊥) → output_after line (b ∷ []) ≡ []
unfolding output_after
output_other line b h = rw (ne_eqb b newline h)

-- ---- The room that the output needs

length_line : (line : List ℕ) → length (line_text line) ≤ longest_line
unfolding line_text
length_line line = length_answer (line_answer line)

length_output : (line input : List ℕ) → length (output_after line input) ≤ longest_line * length input
unfolding output_after
length_output line [] = omega arith
length_output line (b ∷ bs) =
    cond_both (λ (text : List ℕ). length text ≤ longest_line * length (b ∷ bs)) (eqb b newline)
    (omega (arith, length-append (line_text line) (output_after [] bs), length_line line, length_output [] bs))
    (omega (arith, length_output (line ++ (b ∷ [])) bs))

-- ---- The loop over a part: after i bytes the output for them is written, and the line that is then begun is held

pub record Answering (line input held out : List ℕ) (i : ℕ) : Type 0 where
  pub output : out ≡ output_after line (take i input)
  pub begun : held ≡ take most_kept (line_after line (take i input))

pub answering_starts : (line input : List ℕ) → length line ≤ most_kept → Answering line input line [] 0
unfolding line_after output_after
answering_starts line input h = record { output = refl; begun = sym (take_all most_kept line h) }

module _ {line input held out : List ℕ} {i : ℕ} (a : Answering line input held out i) (h : i < length input) where
  -- There is room for a line of output more.
  pub answering_room : {room : ℕ} → longest_line * length input ≤ room → length out + longest_line ≤ room
  answering_room k =
      let count = length-take-le i input (omega arith) in
      omega (arith, ap length a.output, length_output line (take i input))

  next : take (i + 1) input ≡ take i input ++ (get_or input i 0 ∷ [])
  next = rw (add-one i) (take-suc input i 0 h)

  pub answering_newline : get_or input i 0 ≡ newline → Answering line input [] (out ++ answer_text (line_answer held)) (i + 1)
  unfolding line_text
  answering_newline e =
      let text : answer_text (line_answer held) ≡ line_text (line_after line (take i input)) = rw a.begun (kept_text (line_after line (take i input))) in
      record {
        output = rw (next, output_cut line (take i input) (get_or input i 0 ∷ []), output_newline (line_after line (take i input)) (get_or input i 0) e, text, a.output);
        begun = rw (next, line_cut line (take i input) (get_or input i 0 ∷ []), line_newline (line_after line (take i input)) (get_or input i 0) e);
      }

  pub answering_other : (get_or input i 0 ≡ newline → ⊥) → Answering line input (take most_kept (held ++ (get_or input i 0 ∷ []))) out (i + 1)
  answering_other e =
      record {
        output = rw (
          next,
          output_cut line (take i input) (get_or input i 0 ∷ []),
          output_other (line_after line (take i input)) (get_or input i 0) e,
          append-nil (output_after line (take i input)),
        ) a.output;
        begun = rw (next, line_cut line (take i input) (get_or input i 0 ∷ []), line_other (line_after line (take i input)) (get_or input i 0) e, a.begun)
            (kept_more (line_after line (take i input)) (get_or input i 0));
      }

-- ---- Only the first bytes of a line are kept

same_more : (p q : List ℕ) (b : ℕ) → take most_kept p ≡ take most_kept q → take most_kept (p ++ (b ∷ [])) ≡ take most_kept (q ++ (b ∷ []))
same_more p q b e = sym (kept_more p b) ∙ ap (λ (l : List ℕ). take most_kept (l ++ (b ∷ []))) e ∙ kept_more q b

-- Two lines with the same bytes kept go on alike.
same_output : (p q xs : List ℕ) → take most_kept p ≡ take most_kept q → output_after p xs ≡ output_after q xs
unfolding output_after
same_output p q [] e = refl
same_output p q (b ∷ bs) e =
    by_test (eqb b newline)
    (λ t. rw t (ap (λ (text : List ℕ). text ++ output_after [] bs) (sym (kept_text p) ∙ ap line_text e ∙ kept_text q)))
    (λ t. rw t (same_output (p ++ (b ∷ [])) (q ++ (b ∷ [])) bs (same_more p q b e)))

same_line : (p q xs : List ℕ) → take most_kept p ≡ take most_kept q → take most_kept (line_after p xs) ≡ take most_kept (line_after q xs)
unfolding line_after
same_line p q [] e = e
same_line p q (b ∷ bs) e =
    by_test (eqb b newline)
    (λ t. rw t)
    (λ t. rw t (same_line (p ++ (b ∷ [])) (q ++ (b ∷ [])) bs (same_more p q b e)))

kept_last : (line : List ℕ) → last_text (take most_kept line) ≡ last_text line
unfolding last_text
kept_last [] = refl
kept_last (b ∷ bs) = kept_text (b ∷ bs)

parts_from : (line : List ℕ) (parts : List (List ℕ))
    → output_in_parts (take most_kept line) parts ≡ output_after line (flatten parts) ++ last_text (line_after line (flatten parts))
unfolding output_in_parts flatten line_after output_after
parts_from line [] = kept_last line
parts_from line (part ∷ parts) =
    let same = take-take most_kept most_kept line (omega arith) in
    let rest = line_after line part in
    rw (
      same_output (take most_kept line) line part same,
      same_line (take most_kept line) line part same,
      parts_from rest parts,
      output_cut line part (flatten parts),
      line_cut line part (flatten parts),
    )
    (sym (append_assoc (output_after line part) (output_after rest (flatten parts)) (last_text (line_after rest (flatten parts)))))

-- However the input is cut into parts, the output is that for the whole.
pub in_parts : (parts : List (List ℕ)) → header ++ output_in_parts [] parts ≡ output_of (flatten parts)
unfolding output_of
in_parts parts = ap (λ (text : List ℕ). header ++ text) (parts_from [] parts)

-- ---- The last line

pub last_none : (line : List ℕ) → length line ≡ 0 → [] ≡ last_text line
unfolding last_text
last_none [] h = refl
last_none (b ∷ bs) h = absurd (omega arith)

pub last_begun : (line : List ℕ) → 0 < length line → answer_text (line_answer line) ≡ last_text line
unfolding last_text line_text
last_begun [] h = absurd (omega arith)
last_begun (b ∷ bs) h = refl
