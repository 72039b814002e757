-- `wsprcard::u4b_read` meets its contract: the layer's answer, in its struct.
-- Assumes nothing.
use Rattle.wsprcard.proofs.ResultLaws.{telemetry_in_result, told}
use Rattle.wsprcard.proofs.u4b_read.Goals as goal

pub returns : goal.returns
returns c =
    let (result, same) = told (telemetry_in_result _) c.reading_result.ensures c.read.ensures.answer in
    record {
      answer = result;
      as_capitals = rw c.read.ensures.as_capitals at c.reading_result.ensures;
      writes_back = rw same at c.read.ensures.writes_back;
      refuses_exactly = rw same at c.read.ensures.refuses_exactly;
    }
