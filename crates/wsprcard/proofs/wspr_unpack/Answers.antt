-- `wsprcard::wspr_unpack` meets its contract: the layer's answer, in its struct.
-- Assumes nothing.
use Rattle.wsprcard.proofs.ResultLaws.{message_in_result, told}
use Rattle.wsprcard.proofs.wspr_unpack.Goals as goal

pub returns : goal.returns
returns c =
    let (result, same) = told (message_in_result _) c.message_result.ensures c.unpack.ensures.answer in
    record {
      answer = result;
      callsign_after = c.unpack.ensures.callsign_after;
      locator_after = c.unpack.ensures.locator_after;
      packs_back = rw same at c.unpack.ensures.packs_back;
      in_capitals = rw same at c.unpack.ensures.in_capitals;
      refuses_exactly = rw same at c.unpack.ensures.refuses_exactly;
    }
