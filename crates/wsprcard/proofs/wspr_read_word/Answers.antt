-- `wsprcard::wspr_read_word` meets its contract: the layer's answer, in its struct.
-- Assumes nothing.
use Rattle.wsprcard.proofs.ResultLaws.{word_in_result, told}
use Rattle.wsprcard.proofs.wspr_read_word.Goals as goal

pub returns : goal.returns
returns c =
    let (result, same) = told (word_in_result _) c.word_result.ensures c.read_word.ensures.answer in
    record {
      answer = result;
      writes_back = rw same at c.read_word.ensures.writes_back;
      refuses_exactly = rw same at c.read_word.ensures.refuses_exactly;
      no_word = rw same at c.read_word.ensures.no_word;
    }
