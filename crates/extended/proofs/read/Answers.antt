-- `extended::read` meets its contract: the channel and the two numbers are read by `u4b::read`, what they hold by `read_payload`, and the
-- rest follows from the definitions' laws.
-- Assumes nothing.
use mathlib.Core.Path.{sym, ◌∙◌}
use Rattle.std.proofs.lemmas.Result.{err_from_is_err_and}
use Rattle.extended.specs.Answer.{readings_after}
use Rattle.extended.proofs.AnswerLaws.{read_each, read_refused, read_payload, readings_of_payload}
use Rattle.extended.proofs.RoundTripLaws.{readings_each, payload_small, read_promised}
use Rattle.extended.proofs.read.Goals as goal

pub returns-then-not-one_each : goal.returns-then-not-one_each
unfolding readings_after
returns-then-not-one_each c =
    let a = c.args in
    read_promised a.callsign.now a.locator.now a.power a.fields.now a.readings.now _
    (read_each a.callsign.now a.locator.now a.power a.fields.now _ (sym c.one_each.ensures ∙ c.if-not-one_each.true))

pub read_payload-requires : goal.read_payload-requires
read_payload-requires c =
    let a = c.args in
    let small = payload_small a.callsign.now a.locator.now a.power _ (sym c.read.ensures.answer ∙ c.in_ok-payload.was) in
    record {
      upper_bound = small.0;
      lower_bound = small.1;
      readings_len = readings_each a.fields.now _ (sym c.one_each.ensures ∙ c.if-not-one_each.false);
    }

pub returns : goal.returns
returns c =
    let a = c.args in
    let payload = sym c.read.ensures.answer ∙ c.in_ok-payload.was in
    let promised = read_promised a.callsign.now a.locator.now a.power a.fields.now a.readings.now _
    (read_payload a.callsign.now a.locator.now a.power a.fields.now _ (sym c.one_each.ensures ∙ c.if-not-one_each.false) _ payload
    ∙ sym c.read_payload.ensures.answer) in
    let after = rw (← c.read_payload.ensures.answer, ← (readings_of_payload a.callsign.now a.locator.now a.power a.fields.now _ payload)) at c.read_payload.ensures.readings_after in
    rw after promised

pub returns-in_err-payload : goal.returns-in_err-payload
unfolding readings_after
returns-in_err-payload c =
    let a = c.args in
    let passed = err_from_is_err_and c.from_residual.result c.from_residual.ensures.1 in
    rw (passed.1, passed.2)
    (read_promised a.callsign.now a.locator.now a.power a.fields.now a.readings.now _
    (read_refused a.callsign.now a.locator.now a.power a.fields.now _ (sym c.one_each.ensures ∙ c.if-not-one_each.false) _ (sym c.read.ensures.answer ∙ c.in_err-payload.was)))
