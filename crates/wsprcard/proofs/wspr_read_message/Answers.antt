-- `wsprcard::wspr_read_message` meets its contract: the layer's answer, in its struct.
-- Assumes nothing.
use Rattle.wsprcard.proofs.ResultLaws.{message_in_result, told}
use Rattle.wsprcard.proofs.wspr_read_message.Goals as goal

pub returns : goal.returns
returns c =
    let (result, same) = told (message_in_result _) c.message_result.ensures c.read_message.ensures.answer in
    record {
      answer = result;
      callsign_after = c.read_message.ensures.callsign_after;
      locator_after = c.read_message.ensures.locator_after;
      writes_back = rw same at c.read_message.ensures.writes_back;
      in_capitals = rw same at c.read_message.ensures.in_capitals;
      refuses_exactly = rw same at c.read_message.ensures.refuses_exactly;
    }
