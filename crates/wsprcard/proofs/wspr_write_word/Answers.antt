-- `wsprcard::wspr_write_word` meets its contract: the layer's answer, in its struct.
-- Assumes nothing.
use Rattle.wsprcard.proofs.ResultLaws.{write_in_result, told}
use Rattle.wsprcard.proofs.wspr_write_word.Goals as goal

pub returns : goal.returns
returns c =
    let (result, same) = told (write_in_result _) c.written_result.ensures c.write_word.ensures.answer in
    record {
      answer = result;
      frame_after = c.write_word.ensures.frame_after;
      reads_back = rw same at c.write_word.ensures.reads_back;
    }
