-- `message::check` meets its contract: its answer is that of `Message::checked`.
-- Assumes nothing.
use mathlib.Core.Path.{sym}
use Rattle.std.proofs.lemmas.Result.{err_from_is_err_and}
use Rattle.message.proofs.CapitalLaws.{check_promised}
use Rattle.message.proofs.check.Goals as goal

pub returns-in_err-checked : goal.returns-in_err-checked
returns-in_err-checked c =
    let a = c.args in
    let passed = err_from_is_err_and c.from_residual.result c.from_residual.ensures.1 in
    rw (passed.1, passed.2) (check_promised a.callsign.now a.locator.now a.power _ (sym c.in_err-checked.ensures.answer))

pub returns : goal.returns
returns c =
    let a = c.args in
    check_promised a.callsign.now a.locator.now a.power _ (sym c.in_ok-checked.ensures.answer)
