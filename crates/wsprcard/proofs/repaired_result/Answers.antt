-- `wsprcard::repaired_result` meets its contract: the refusal in the answer, and what stands beside it.
-- Assumes nothing.
use Rattle.repair.specs.Answer.{no_nearest}
use Rattle.wsprcard.proofs.ResultLaws.{repaired_of}
use Rattle.wsprcard.proofs.repaired_result.Goals as goal

pub returns : goal.returns
unfolding no_nearest
returns c =
    repaired_of c.args.answer (rw c.err.ensures.value at c.refused-refusal.ensures) c.unwrap_or.ensures
