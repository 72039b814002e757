-- `wsprcard::wspr_repair` meets its contract: the layer's answer, in its struct.
-- Assumes nothing.
use Rattle.wsprcard.proofs.ResultLaws.{repair_in_result, told}
use Rattle.wsprcard.proofs.wspr_repair.Goals as goal

pub returns : goal.returns
returns c =
    let (result, same) = told (repair_in_result _) c.repaired_result.ensures c.repair.ensures.answer in
    record {
      answer = result;
      checked = rw same at c.repair.ensures.checked;
      demanded = rw same at c.repair.ensures.demanded;
      two_flips = rw same at c.repair.ensures.two_flips;
      three_flips = rw same at c.repair.ensures.three_flips;
      wrong_word = rw same at c.repair.ensures.wrong_word;
      clean = rw same at c.repair.ensures.clean;
      one_flip = rw same at c.repair.ensures.one_flip;
      flips_repaired = rw same at c.repair.ensures.flips_repaired;
      four_flips = rw same at c.repair.ensures.four_flips;
      flips_refused = rw same at c.repair.ensures.flips_refused;
      never_shared = rw same at c.repair.ensures.never_shared;
      margin_left = rw same at c.repair.ensures.margin_left;
      never_over_budget = rw same at c.repair.ensures.never_over_budget;
    }
