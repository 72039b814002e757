-- `frame::write_word` meets its contract: one case of the answer's definition at each return; the rest follows from the definition's laws.
-- Assumes nothing.
use native.Mathlib.Omega.{arith}
use Rattle.frame.proofs.AnswerLaws.{written_length, written_large, written_done}
use Rattle.frame.proofs.RoundTripLaws.{write_word_refused, write_word_done}
use Rattle.frame.proofs.write_word.Goals as goal

pub returns-in_default : goal.returns-in_default
returns-in_default c =
    let a = c.args in
    write_word_refused a.frame.now a.word _ (written_length a.frame.now a.word c.in_default.ensures.cases)

pub returns-then-word : goal.returns-then-word
returns-then-word c =
    let a = c.args in
    let whole = c.in-Some.ensures.cases in
    rw whole.same (write_word_refused a.frame.now a.word _ (written_large a.frame.now a.word whole.long (omega arith)))

pub returns : goal.returns
returns c =
    let a = c.args in
    rw c.write_symbols.ensures (write_word_done a.frame.now a.word (written_done a.frame.now a.word c.in-Some.ensures.cases.long (omega arith)))
