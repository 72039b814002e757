-- `wsprcard::reading_result` meets its contract: the refusal in the answer, and what stands beside it.
-- Assumes nothing.
use Rattle.telemetry.specs.Answer.{no_reading}
use Rattle.wsprcard.proofs.ResultLaws.{reading_of}
use Rattle.wsprcard.proofs.reading_result.Goals as goal

pub returns : goal.returns
unfolding no_reading
returns c =
    reading_of c.args.answer (rw c.err.ensures.value at c.refused-refusal.ensures) c.unwrap_or.ensures
