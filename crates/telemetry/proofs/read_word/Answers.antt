-- `telemetry::read_word` meets its contract: the word's message is unpacked into buffers of the right lengths, and read.
-- Assumes nothing.
use mathlib.Core.Path.{refl, sym, ◌∙◌}
use Rattle.std.proofs.lemmas.Result.{err_from_is_err_and}
use Rattle.message.specs.Answer.{right_lengths}
use Rattle.telemetry.proofs.AnswerLaws.{word_refused, word_read}
use Rattle.telemetry.proofs.RoundTripLaws.{word_promised}
use Rattle.telemetry.proofs.read_word.Goals as goal

pub returns-in_err-power : goal.returns-in_err-power
unfolding right_lengths
returns-in_err-power c =
    let passed = err_from_is_err_and c.from_residual.result c.from_residual.ensures.1 in
    rw (passed.1, passed.2)
    (word_promised c.args.word _ (word_refused _ _ c.args.word refl _ (sym c.unpack.ensures.answer ∙ c.in_err-power.was)))

pub returns : goal.returns
unfolding right_lengths
returns c =
    let u = c.unpack.ensures in
    let read = word_read _ _ c.args.word refl _ (sym u.answer ∙ c.in_ok-power.was) in
    word_promised c.args.word _ (read ∙ sym (rw (u.callsign_after, u.locator_after) at c.read.ensures.answer))
