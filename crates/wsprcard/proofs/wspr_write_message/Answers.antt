-- `wsprcard::wspr_write_message` meets its contract: the layer's answer, in its struct.
-- Assumes nothing.
use Rattle.wsprcard.proofs.ResultLaws.{write_in_result, told}
use Rattle.wsprcard.proofs.wspr_write_message.Goals as goal

pub returns : goal.returns
returns c =
    let (result, same) = told (write_in_result _) c.written_result.ensures c.write_message.ensures.answer in
    record {
      answer = result;
      frame_after = c.write_message.ensures.frame_after;
      as_capitals = rw c.write_message.ensures.as_capitals at c.written_result.ensures;
      frame_as_capitals = c.write_message.ensures.frame_as_capitals;
      reads_back = rw same at c.write_message.ensures.reads_back;
    }
