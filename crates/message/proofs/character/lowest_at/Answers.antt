-- `message::character::lowest_at` meets its contract: its arms are the cases of the law.
-- Assumes nothing.
use mathlib.Core.Path.{sym, ◌∙◌}
use native.Mathlib.Omega.{arith}
use borrow.Author.Tests.{lt-ltb, le-ltb}
use Rattle.message.proofs.CharacterLaws.{lowest_by}
use Rattle.message.proofs.character.lowest_at.Goals as goal

pub returns-in-3-to-7 : goal.returns-in-3-to-7
returns-in-3-to-7 c =
    let place = c.args.place in
    sym (lowest_by place ∙ rw (le-ltb place 3 (omega arith), lt-ltb place 8 (omega arith)))

pub returns-in_default : goal.returns-in_default
returns-in_default c =
    let place = c.args.place in
    sym (lowest_by place ∙ rw (lt-ltb place 3 (omega arith)))

pub returns-in_default-2 : goal.returns-in_default-2
returns-in_default-2 c =
    let place = c.args.place in
    sym (lowest_by place ∙ rw (le-ltb place 3 (omega arith), le-ltb place 8 (omega arith)))
