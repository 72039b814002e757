-- `wsprcard::word_result` meets its contract: the refusal in the answer, and what stands beside it.
-- Assumes nothing.
use Rattle.wsprcard.proofs.ResultLaws.{word_of}
use Rattle.wsprcard.proofs.word_result.Goals as goal

pub returns : goal.returns
returns c =
    word_of c.args.answer (rw c.err.ensures.value at c.refused-refusal.ensures) c.unwrap_or.ensures
