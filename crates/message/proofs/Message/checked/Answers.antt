-- `message::Message::checked` meets its contract: each return is a case of the definition of the answer, which its laws name.
-- Assumes nothing.
use mathlib.Core.Path.{◌≡◌, refl, sym, ◌∙◌}
use native.Mathlib.Omega.{arith}
use lib.ListN.{length}
use Rattle.basics.proofs.ListLaws.{none_fails}
use Rattle.basics.proofs.SearchLaws.{some_below_found, some_below_none}
use Rattle.message.specs.Character.{legal_at}
use Rattle.message.proofs.AnswerLaws.{lengths_right, lengths_wrong, legal_parts, checked_length, checked_character, checked_power, checked_legal}
use Rattle.message.proofs.CapitalLaws.{check_promised, checked_refused}
use Rattle.message.proofs.Message.checked.Goals as goal

pub returns-in_default : goal.returns-in_default
returns-in_default c =
    checked_refused _ _ c.args.power _ (checked_length _ _ _ (lengths_wrong _ _ (λ six four. c.in_default.ensures'.cases four)))

pub returns-in_default-2 : goal.returns-in_default-2
returns-in_default-2 c =
    checked_refused _ _ c.args.power _ (checked_length _ _ _ (lengths_wrong _ _ (λ six four. c.in_default.ensures.cases six)))

pub overflow_cast-result : goal.overflow_cast-result
overflow_cast-result c = omega (arith, (some_below_found 10 _ _ (sym c.first_bad_of.ensures ∙ c.in-Some.is)).1)

pub returns-in-Some : goal.returns-in-Some
returns-in-Some c =
    let callsign = c.in-Some-Some.ensures.cases in
    let locator = c.in-Some-Some.ensures'.cases in
    let bad = some_below_found 10 _ _ (sym c.first_bad_of.ensures ∙ c.in-Some.is) in
    checked_refused _ _ c.args.power _ (checked_character _ _ _ (lengths_right _ _ callsign.long locator.long) _ (rw (← callsign.same, ← locator.same) bad.0) bad.1)

pub returns-then-not-is_legal : goal.returns-then-not-is_legal
returns-then-not-is_legal c =
    let callsign = c.in-Some-Some.ensures.cases in
    let locator = c.in-Some-Some.ensures'.cases in
    let good = some_below_none 10 _ (sym c.first_bad_of.ensures ∙ c.in_default-first_bad_of.is) in
    checked_refused _ _ c.args.power _ (checked_power _ _ _ (lengths_right _ _ callsign.long locator.long) (rw (← callsign.same, ← locator.same) good) (sym c.is_legal.ensures ∙ c.if-not-is_legal.true))

pub invariant_of-result : goal.invariant_of-result
invariant_of-result c =
    let callsign = c.in-Some-Some.callsign.now in
    let locator = c.in-Some-Some.locator.now in
    let six : length callsign ≡ 6 = rw c.in-Some-Some.ensures.cases.same c.in-Some-Some.ensures.cases.long in
    let four : length locator ≡ 4 = rw c.in-Some-Some.ensures'.cases.same c.in-Some-Some.ensures'.cases.long in
    let legal = legal_parts callsign locator six four (some_below_none 10 _ (sym c.first_bad_of.ensures ∙ c.in_default-first_bad_of.is)) in
    record {
      callsign_legal = omega (arith, none_fails legal_at 0 callsign legal.0);
      locator_legal = omega (arith, none_fails legal_at 6 locator legal.1);
      power_legal = sym c.is_legal.ensures ∙ c.if-not-is_legal.false;
    }

pub returns : goal.returns
returns c =
    let callsign = c.in-Some-Some.ensures.cases in
    let locator = c.in-Some-Some.ensures'.cases in
    let good = some_below_none 10 _ (sym c.first_bad_of.ensures ∙ c.in_default-first_bad_of.is) in
    let said = check_promised _ _ c.args.power _ (checked_legal _ _ _ (lengths_right _ _ callsign.long locator.long) (rw (← callsign.same, ← locator.same) good) (sym c.is_legal.ensures ∙ c.if-not-is_legal.false)) in
    record { answer = said.answer; numbers = said.numbers; as_capitals = said.as_capitals; parts = (callsign.same, locator.same, refl) }
