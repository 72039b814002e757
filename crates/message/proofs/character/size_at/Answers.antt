-- `message::character::size_at` meets its contract: its arms are the cases of the law.
-- Assumes nothing.
use mathlib.Core.Path.{sym, ◌∙◌}
use native.Mathlib.Omega.{arith}
use borrow.Author.Tests.{lt-ltb, le-ltb}
use Rattle.message.specs.Character.{set_at, callsign_sets, locator_sets}
use Rattle.message.proofs.CharacterLaws.{size_past_2}
use Rattle.message.proofs.character.size_at.Goals as goal

pub returns-in-0 : goal.returns-in-0
unfolding set_at callsign_sets locator_sets
returns-in-0 c = rw c.in-0.is

pub returns-in-1 : goal.returns-in-1
unfolding set_at callsign_sets locator_sets
returns-in-1 c = rw c.in-1.is

pub returns-in-2 : goal.returns-in-2
unfolding set_at callsign_sets locator_sets
returns-in-2 c = rw c.in-2.is

pub returns-in-3-to-5 : goal.returns-in-3-to-5
returns-in-3-to-5 c =
    let place = c.args.place in
    sym (size_past_2 place c.requires (omega arith) ∙ rw (lt-ltb place 6 (omega arith)))

pub returns-in-6 : goal.returns-in-6
returns-in-6 c =
    let place = c.args.place in
    sym (size_past_2 place c.requires (omega arith) ∙ rw (le-ltb place 6 (omega arith), lt-ltb place 8 (omega arith)))

pub returns-in_default : goal.returns-in_default
returns-in_default c =
    let place = c.args.place in
    sym (size_past_2 place c.requires (omega arith) ∙ rw (le-ltb place 6 (omega arith), le-ltb place 8 (omega arith)))
