-- `message::pack` meets its contract: what isn't legal is refused as it was; the word of what is reads back (`unpack_pack`).
-- Assumes nothing.
use mathlib.Core.Path.{◌≡◌, sym, ap, ◌∙◌}
use Rattle.std.specs.Prelude.{Ok}
use Rattle.std.proofs.lemmas.Result.{err_from_is_err_and}
use Rattle.message.specs.Word.{word_of}
use Rattle.message.specs.Answer.{word_numbers}
use Rattle.message.proofs.AnswerLaws.{packed_refused, packed_word}
use Rattle.message.proofs.CapitalLaws.{packed_capitals}
use Rattle.message.proofs.RoundTripLaws.{unpack_pack}
use Rattle.message.proofs.pack.Goals as goal

pub returns-in_err-message : goal.returns-in_err-message
returns-in_err-message c =
    let a = c.args in
    let passed = err_from_is_err_and c.from_residual.result c.from_residual.ensures.1 in
    let refused = packed_refused a.callsign.now a.locator.now a.power _ (sym c.in_err-message.ensures.answer) in
    rw (passed.1, passed.2) (record { answer = sym refused; numbers = ap word_numbers (sym refused); as_capitals = sym (packed_capitals a.callsign.now a.locator.now a.power ∙ refused); unpacks_back = tt })

pub returns : goal.returns
returns c =
    let a = c.args in
    let parts = c.in_ok-message.ensures.parts in
    let word : c.word.result ≡ word_of a.callsign.now a.locator.now a.power = c.word.ensures ∙ rw (parts.0, parts.1, parts.2) in
    let made = packed_word a.callsign.now a.locator.now a.power (sym c.in_ok-message.ensures.answer) ∙ ap Ok (sym word) in
    record { answer = sym made; numbers = ap word_numbers (sym made); as_capitals = sym (packed_capitals a.callsign.now a.locator.now a.power ∙ made); unpacks_back = unpack_pack _ _ _ _ made }
