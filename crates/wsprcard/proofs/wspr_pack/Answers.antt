-- `wsprcard::wspr_pack` meets its contract: the layer's answer, in its struct.
-- Assumes nothing.
use Rattle.wsprcard.proofs.ResultLaws.{word_in_result, told}
use Rattle.wsprcard.proofs.wspr_pack.Goals as goal

pub returns : goal.returns
returns c =
    let (result, same) = told (word_in_result _) c.word_result.ensures c.pack.ensures.answer in
    record { answer = result; as_capitals = rw c.pack.ensures.as_capitals at c.word_result.ensures; unpacks_back = rw same at c.pack.ensures.unpacks_back }
