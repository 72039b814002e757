-- `wsprcard::message_result` meets its contract: the refusal in the answer, and what stands beside it.
-- Assumes nothing.
use Rattle.wsprcard.proofs.ResultLaws.{message_of}
use Rattle.wsprcard.proofs.message_result.Goals as goal

pub returns : goal.returns
returns c =
    message_of c.args.answer (rw c.err.ensures.value at c.refused-refusal.ensures) c.unwrap_or.ensures
