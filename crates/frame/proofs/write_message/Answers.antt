-- `frame::write_message` meets its contract: one case of the answer's definition at each return; the rest follows from the definition's laws.
-- Assumes nothing.
use mathlib.Core.Path.{sym, ◌∙◌}
use Rattle.frame.proofs.AnswerLaws.{message_length, message_done, message_refused}
use Rattle.frame.proofs.RoundTripLaws.{write_message_promised, write_message_refused}
use Rattle.frame.proofs.write_message.Goals as goal

pub returns-in_default : goal.returns-in_default
returns-in_default c =
    let a = c.args in
    write_message_refused a.callsign.now a.locator.now a.power a.frame.now _
    (message_length a.callsign.now a.locator.now a.power a.frame.now c.in_default.ensures.cases)

pub returns-in-Err : goal.returns-in-Err
returns-in-Err c =
    let a = c.args in
    let whole = c.in-Some.ensures.cases in
    rw whole.same (write_message_refused a.callsign.now a.locator.now a.power a.frame.now _
    (message_refused a.callsign.now a.locator.now a.power a.frame.now _ whole.long (sym c.pack.ensures.answer ∙ c.in-Err.is)))

pub returns-in-Ok : goal.returns-in-Ok
returns-in-Ok c =
    let a = c.args in
    let made = sym c.pack.ensures.answer ∙ c.in-Ok.is in
    let written = message_done a.callsign.now a.locator.now a.power a.frame.now _ c.in-Some.ensures.cases.long made in
    rw c.write_symbols.ensures (write_message_promised a.callsign.now a.locator.now a.power a.frame.now _ _ written.0 written.1)
