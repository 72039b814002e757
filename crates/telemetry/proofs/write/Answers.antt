-- `telemetry::write` meets its contract: a refusal leaves both buffers alone; else the answer and the message are those of writing the
-- numbers, and the rest follows from the definitions' laws.
-- Assumes nothing.
use mathlib.Core.Path.{◌≡◌, sym, ◌∙◌}
use mathlib.Core.Bool.{true}
use lib.ListN.{length}
use Rattle.std.proofs.lemmas.Result.{err_from_is_err_and}
use Rattle.message.specs.Answer.{right_lengths, content_after}
use Rattle.u4b.specs.Answer.{callsign_after_payload, locator_after_payload}
use Rattle.u4b.proofs.AnswerLaws.{written_message}
use Rattle.telemetry.specs.Payload.{basic_bit, payload_from}
use Rattle.telemetry.specs.Answer.{basic_first, measured_callsign, measured_locator}
use Rattle.telemetry.proofs.AnswerLaws.{measured_refused, measured_checked, measured_payload, written_length, written_measured}
use Rattle.telemetry.proofs.RoundTripLaws.{write_promised}
use Rattle.telemetry.proofs.write.Goals as goal

pub returns-then-not-right_lengths : goal.returns-then-not-right_lengths
unfolding content_after
returns-then-not-right_lengths c =
    let a = c.args in
    write_promised a.callsign.now a.locator.now a.measured _
    (written_length a.callsign.now a.locator.now a.measured (sym c.right_lengths.ensures ∙ c.if-not-right_lengths.true))

pub returns-in_err-measured : goal.returns-in_err-measured
unfolding content_after
returns-in_err-measured c =
    let a = c.args in
    let right : right_lengths (length a.callsign.now) (length a.locator.now) ≡ true = sym c.right_lengths.ensures ∙ c.if-not-right_lengths.false in
    let refused = measured_refused a.measured _ (sym c.checked.ensures ∙ c.in_err-measured.was) in
    let passed = err_from_is_err_and c.from_residual.result c.from_residual.ensures.1 in
    rw (passed.1, passed.2)
    (write_promised a.callsign.now a.locator.now a.measured _ (written_measured a.callsign.now a.locator.now a.measured right ∙ refused))

pub returns : goal.returns
unfolding callsign_after_payload locator_after_payload measured_callsign measured_locator
returns c =
    let a = c.args in
    let right : right_lengths (length a.callsign.now) (length a.locator.now) ≡ true = sym c.right_lengths.ensures ∙ c.if-not-right_lengths.false in
    let (same, none) = measured_checked a.measured _ (sym c.checked.ensures ∙ c.in_ok-measured.was) in
    let written = rw (c.payload-payload.ensures, same) at c.write.ensures in
    let as-payload = written_message basic_first a.callsign.now a.locator.now (payload_from basic_bit a.measured) right in
    let answer = written_measured a.callsign.now a.locator.now a.measured right ∙ measured_payload a.measured none ∙ sym as-payload in
    rw (written.answer, written.callsign_after, written.locator_after) (write_promised a.callsign.now a.locator.now a.measured _ answer)
