-- `telemetry::read` meets its contract: the channel and the two numbers are read by `u4b::read`, the readings by `read_basic`, and the rest
-- follows from the definitions' laws.
-- Assumes nothing.
use mathlib.Core.Path.{sym, ◌∙◌}
use Rattle.std.proofs.lemmas.Result.{err_from_is_err_and}
use Rattle.telemetry.proofs.AnswerLaws.{refused_read, read_payload}
use Rattle.telemetry.proofs.RoundTripLaws.{read_promised}
use Rattle.telemetry.proofs.read.Goals as goal

pub returns-in_err-payload : goal.returns-in_err-payload
returns-in_err-payload c =
    let a = c.args in
    let passed = err_from_is_err_and c.from_residual.result c.from_residual.ensures.1 in
    rw (passed.1, passed.2)
    (read_promised a.callsign.now a.locator.now a.power _
    (refused_read a.callsign.now a.locator.now a.power _ (sym c.read.ensures.answer ∙ c.in_err-payload.was)))

pub returns : goal.returns
returns c =
    let a = c.args in
    read_promised a.callsign.now a.locator.now a.power _
    (read_payload a.callsign.now a.locator.now a.power _ (sym c.read.ensures.answer ∙ c.in_ok-payload.was) ∙ sym c.read_basic.ensures)
