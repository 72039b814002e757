-- `message::Message::word` meets its contract: the word is made of the numbers and the power, which are below their ends.
-- Assumes nothing.
use native.Mathlib.Omega.{arith}
use Rattle.power.proofs.Laws.{legal_power_end}
use Rattle.message.specs.Word.{word_of}
use Rattle.message.proofs.WordLaws.{callsign_number_below, locator_number_below}
use Rattle.message.proofs.AnswerLaws.{legal_of_message}
use Rattle.message.proofs.Message.word.Goals as goal

pub assemble-requires : goal.assemble-requires
assemble-requires c =
    let l = legal_of_message c.args.self.now (omega arith) (omega arith) in
    omega (arith, callsign_number_below _ l.six l.callsign_legal, locator_number_below _ l.four l.locator_legal, legal_power_end _ l.power_legal)

pub returns : goal.returns
unfolding word_of
returns c = rw (c.assemble.ensures, c.callsign_number-n.ensures, c.locator_number-m1.ensures)
