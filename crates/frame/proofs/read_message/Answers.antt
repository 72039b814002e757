-- `frame::read_message` meets its contract: the frame's refusal, or what unpacking its word answers and writes.
-- Assumes nothing.
use mathlib.Core.Path.{sym, ◌∙◌}
use Rattle.frame.proofs.RoundTripLaws.{read_message_refused, read_message_word}
use Rattle.frame.proofs.read_message.Goals as goal

pub returns-in_default : goal.returns-in_default
returns-in_default c =
    let a = c.args in
    read_message_refused a.frame.now a.callsign.now a.locator.now _ (sym c.read_word-answer.ensures.answer ∙ c.unwrap_err.ensures)

pub returns : goal.returns
returns c =
    let a = c.args in
    let e = c.unpack.ensures in
    read_message_word a.frame.now a.callsign.now a.locator.now _ _ _ _ (sym c.read_word-answer.ensures.answer ∙ c.in-Ok.is)
    e.answer e.callsign_after e.locator_after e.in_capitals
