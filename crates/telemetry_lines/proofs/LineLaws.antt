-- Laws of a line: its form test by test, its answer in each case, in small letters too, and the bytes kept of it.
use mathlib.Core.Path.{◌≡◌, sym, ap, ◌∙◌}
use Prim.Native.Nat.{ℕ, ◌≤◌, ◌<◌}
use native.Mathlib.Omega.{arith}
use mathlib.Core.Bool.{true, false}
use mathlib.Core.List.{List, [], ◌∷◌, ◌++◌}
use lib.Dec.{eqb}
use lib.ListN.{length, get_or, take, drop, length-take, length-map}
use lib.Seq.{take-take, take_all, take-append-le}
use borrow.Author.Tests.{eqb-true, ne_eqb}
use Rattle.basics.specs.Test.{between}
use Rattle.basics.proofs.Choice.{both_true, by_test, between_above, between_range, below_or_not}
use Rattle.basics.proofs.ListLaws.{take_map, drop_map}
use Rattle.message.specs.Character.{capital, capital_form}
use Rattle.message.proofs.CharacterLaws.{capital_before, capital_test, capital_space}
use Rattle.message.proofs.CapitalLaws.{get_d_capitals}
use Rattle.telemetry.specs.Answer.{telemetry_read}
use Rattle.std.specs.Prelude.{Err}
use Rattle.refusal.specs.declared.Refusal.{Refusal}
use Rattle.telemetry.proofs.AnswerLaws.{telemetry_capitals}
use Rattle.telemetry_lines.specs.Text.{space}
use Rattle.telemetry_lines.specs.Line.{has_form, callsign_in, locator_in, power_in, line_answer, line_text}
use Rattle.telemetry_lines.specs.Stream.{most_kept}

-- ---- The form

other_length : (line : List ℕ) → (length line ≡ 14 → ⊥) → has_form line ≡ false
unfolding has_form
other_length line h = rw (ne_eqb (length line) 14 h)

-- What the form says: the length, and that the power is two digits.
pub record Formed (line : List ℕ) : Type 0 where
  pub long : length line ≡ 14
  pub tens_low : 48 ≤ get_or line 12 0
  pub tens_high : get_or line 12 0 ≤ 57
  pub ones_low : 48 ≤ get_or line 13 0
  pub ones_high : get_or line 13 0 ≤ 57

pub formed : (line : List ℕ) → has_form line ≡ true → Formed line
unfolding has_form
formed line e =
    let ones = both_true _ (between 48 57 (get_or line 13 0)) e in
    let tens = both_true _ (between 48 57 (get_or line 12 0)) ones.0 in
    let second = both_true _ (eqb (get_or line 11 0) space) tens.0 in
    let first = both_true (eqb (length line) 14) _ second.0 in
    let d = between_range 48 57 (get_or line 12 0) tens.1 in
    let u = between_range 48 57 (get_or line 13 0) ones.1 in
    record {
      long = eqb-true (length line) 14 first.0;
      tens_low = d.0;
      tens_high = d.1;
      ones_low = u.0;
      ones_high = u.1;
    }

-- ---- The answer

pub answer_other : (line : List ℕ) → has_form line ≡ false → line_answer line ≡ Err Refusal.WrongLength
unfolding line_answer
answer_other line e = rw e

pub answer_formed : (line : List ℕ) → has_form line ≡ true → line_answer line ≡ telemetry_read (take 6 line) (take 4 (drop 7 line)) (power_in line)
unfolding line_answer callsign_in locator_in
answer_formed line e = rw e

-- ---- Small letters count as their capitals

digit_test : (b : ℕ) → between 48 57 (capital b) ≡ between 48 57 b
digit_test b = capital_test (λ (c : ℕ). between 48 57 c) (λ c h. between_above 48 57 c (omega arith) (omega arith)) b

form_capitals : (line : List ℕ) → has_form (capital_form line) ≡ has_form line
unfolding has_form
form_capitals line =
    rw (
      length-map line capital,
      get_d_capitals line 6,
      get_d_capitals line 11,
      get_d_capitals line 12,
      get_d_capitals line 13,
      capital_space (get_or line 6 0),
      capital_space (get_or line 11 0),
      digit_test (get_or line 12 0),
      digit_test (get_or line 13 0),
    )

power_capitals : (line : List ℕ) → Formed line → power_in (capital_form line) ≡ power_in line
unfolding power_in
power_capitals line f =
    let tens : get_or line 12 0 < 97 = omega (arith, f.tens_high) in
    let ones : get_or line 13 0 < 97 = omega (arith, f.ones_high) in
    rw (get_d_capitals line 12, get_d_capitals line 13, capital_before tens, capital_before ones)

pub line_capitals : (line : List ℕ) → line_answer (capital_form line) ≡ line_answer line
line_capitals line =
    by_test (has_form line)
    (λ t. rw (
      answer_formed (capital_form line) (form_capitals line ∙ t),
      answer_formed line t,
      power_capitals line (formed line t),
      take_map capital 6 line,
      drop_map capital 7 line,
      take_map capital 4 (drop 7 line),
    ) (telemetry_capitals (take 6 line) (take 4 (drop 7 line)) (power_in line)))
    (λ t. rw (answer_other (capital_form line) (form_capitals line ∙ t), answer_other line t))

-- ---- The bytes kept

-- A longer line than those kept has the same answer as they have.
kept_answer : (line : List ℕ) → line_answer (take most_kept line) ≡ line_answer line
kept_answer line =
    below_or_not (length line) 16
    (λ h. ap line_answer (take_all most_kept line (omega arith)))
    (λ h. answer_other (take most_kept line) (other_length (take most_kept line) (λ e. omega (arith, length-take most_kept line)))
    ∙ sym (answer_other line (other_length line (λ e. omega arith))))

pub kept_text : (line : List ℕ) → line_text (take most_kept line) ≡ line_text line
unfolding line_text
kept_text line = rw (kept_answer line)

-- A byte more after the bytes kept, or after the whole line.
pub kept_more : (line : List ℕ) (byte : ℕ) → take most_kept (take most_kept line ++ (byte ∷ [])) ≡ take most_kept (line ++ (byte ∷ []))
kept_more line byte =
    below_or_not (length line) 15
    (λ h. ap (λ (l : List ℕ). take most_kept (l ++ (byte ∷ []))) (take_all most_kept line (omega arith)))
    (λ h. take-append-le most_kept (take most_kept line) (byte ∷ []) (omega (arith, length-take most_kept line))
    ∙ take-take most_kept most_kept line (omega arith)
    ∙ sym (take-append-le most_kept line (byte ∷ []) (omega arith)))

-- A line with no room left is what is kept with a byte more.
pub kept_full : (line : List ℕ) (byte : ℕ) → length line ≡ most_kept → line ≡ take most_kept (line ++ (byte ∷ []))
kept_full line byte e =
    sym (take-append-le most_kept line (byte ∷ []) (omega arith) ∙ take_all most_kept line (omega arith))
