-- `message::unpack` meets its contract: a refusal leaves both buffers alone; else the word's callsign and locator are written, and the
-- rest follows from the definitions' laws.
-- Assumes nothing.
use mathlib.Core.Path.{◌≡◌, sym, ◌∙◌}
use mathlib.Core.Bool.{true}
use lib.ListN.{length}
use Rattle.std.proofs.lemmas.Result.{err_from_is_err_and}
use Rattle.message.specs.Answer.{right_lengths}
use Rattle.message.proofs.AnswerLaws.{lengths_right, lengths_wrong, unpacked_length, unpacked_read}
use Rattle.message.proofs.RoundTripLaws.{promised_refused, promised_power}
use Rattle.message.proofs.unpack.Goals as goal

pub returns-in_default : goal.returns-in_default
returns-in_default c =
    let a = c.args in
    promised_refused a.callsign.now a.locator.now a.word _
    (unpacked_length a.callsign.now a.locator.now a.word (lengths_wrong _ _ (λ six four. c.in_default.ensures.cases six)))

pub returns-in_default-as_mut_array : goal.returns-in_default-as_mut_array
returns-in_default-as_mut_array c =
    let a = c.args in
    rw c.in-Some.ensures.cases.same
    (promised_refused a.callsign.now a.locator.now a.word _
    (unpacked_length a.callsign.now a.locator.now a.word (lengths_wrong _ _ (λ six four. c.in_default-as_mut_array.ensures.cases four))))

pub returns-in_err-power : goal.returns-in_err-power
returns-in_err-power c =
    let a = c.args in
    let right : right_lengths (length a.callsign.now) (length a.locator.now) ≡ true = lengths_right _ _ c.in-Some.ensures.cases.long c.in-Some-as_mut_array.ensures.cases.long in
    let passed = err_from_is_err_and c.from_residual.result c.from_residual.ensures.1 in
    rw (passed.1, passed.2, c.in-Some.ensures.cases.same, c.in-Some-as_mut_array.ensures.cases.same) (promised_refused a.callsign.now a.locator.now a.word _
    (unpacked_read a.callsign.now a.locator.now a.word right ∙ sym c.power_of.ensures ∙ c.in_err-power.was))

pub returns : goal.returns
returns c =
    let a = c.args in
    let right : right_lengths (length a.callsign.now) (length a.locator.now) ≡ true = lengths_right _ _ c.in-Some.ensures.cases.long c.in-Some-as_mut_array.ensures.cases.long in
    rw (c.write_callsign.ensures, c.write_locator.ensures)
    (promised_power a.callsign.now a.locator.now a.word _ right (sym c.power_of.ensures ∙ c.in_ok-power.was))
