-- `wsprcard::u4b_write` meets its contract: the layer's answer, in its struct. A signed argument is read back from its bits as it was.
-- Assumes nothing.
use mir.Facts.{to_z-of_z}
use Rattle.wsprcard.proofs.ResultLaws.{message_in_result, told}
use Rattle.wsprcard.proofs.u4b_write.Goals as goal

pub returns : goal.returns
returns c =
    let promised = rw (to_z-of_z c.ranges.temperature) at c.write.ensures in
    let (result, same) = told (message_in_result _) c.message_result.ensures promised.answer in
    record {
      answer = result;
      callsign_after = promised.callsign_after;
      locator_after = promised.locator_after;
      reads_back = rw same at promised.reads_back;
      within_steps = rw same at promised.within_steps;
      in_capitals = rw same at promised.in_capitals;
    }
