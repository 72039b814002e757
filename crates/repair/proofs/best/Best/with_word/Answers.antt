-- `repair::best::Best::with_word` meets its contract, case by case.
-- Assumes nothing.
use mathlib.Core.Path.{sym}
use Rattle.repair.proofs.BestLaws.{with_nearest, with_next, with_neither}
use Rattle.repair.proofs.best.Best.with_word.Goals as goal

pub returns-then-disagreements-self : goal.returns-then-disagreements-self
returns-then-disagreements-self c =
    let a = c.args in
    sym (with_nearest a.self a.word a.disagreements c.if-disagreements-self.true)

pub returns-then-disagreements-self-2 : goal.returns-then-disagreements-self-2
returns-then-disagreements-self-2 c =
    let a = c.args in
    sym (with_next a.self a.word a.disagreements c.if-disagreements-self.false c.if-disagreements-self-2.true)

pub returns-else-disagreements-self-2 : goal.returns-else-disagreements-self-2
returns-else-disagreements-self-2 c =
    let a = c.args in
    sym (with_neither a.self a.word a.disagreements c.if-disagreements-self.false c.if-disagreements-self-2.false)
