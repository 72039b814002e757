-- `u4b::alphabet::first_not_taken` meets its contract: it looks for the first place whose character isn't taken there.
-- Assumes nothing.
use mathlib.Core.Path.{sym, ◌∙◌}
use native.Mathlib.Omega.{arith}
use Rattle.basics.proofs.ListLaws.{search_found, search_next, search_none}
use Rattle.basics.proofs.SearchLaws.{some_below_at, some_below_past}
use Rattle.u4b.specs.Alphabet.{taken_at, first_not_taken}
use Rattle.u4b.proofs.alphabet.first_not_taken.Goals as goal

pub returns-then-not-is_taken_at : goal.returns-then-not-is_taken_at
unfolding first_not_taken
returns-then-not-is_taken_at c =
    let a = c.args in
    let found = search_found (taken_at a.alphabet) a.callsign.now c.loop-i.i c.loop-i.invariant 0 (omega arith)
    (sym c.is_taken_at.ensures ∙ c.if-not-is_taken_at.true) in
    sym (some_below_at _ _ _ (sym found) (omega arith))

pub loop-i-preserved : goal.loop-i-preserved
loop-i-preserved c =
    let a = c.args in
    search_next (taken_at a.alphabet) a.callsign.now c.loop-i.i c.loop-i.invariant 0 (omega arith)
    (sym c.is_taken_at.ensures ∙ c.if-not-is_taken_at.false)

pub returns : goal.returns
unfolding first_not_taken
returns c =
    let a = c.args in
    let none = search_none (taken_at a.alphabet) a.callsign.now c.loop-i.i c.loop-i.invariant (omega arith) in
    sym (some_below_past _ _ (omega (arith, none)))
