-- `wsprcard::written_result` meets its contract: the refusal in the answer.
-- Assumes nothing.
use Rattle.std.proofs.Common.{◌∙◌}
use Rattle.wsprcard.proofs.ResultLaws.{written_of}
use Rattle.wsprcard.proofs.written_result.Goals as goal

pub returns : goal.returns
returns c =
    rw c.err.ensures.value at c.refused.ensures ∙ written_of c.args.answer
