-- `frame::symbols::first_large` meets its contract: it looks for the first place whose symbol is above 3.
-- Assumes nothing.
use mathlib.Core.Path.{sym, ◌∙◌}
use native.Mathlib.Omega.{arith}
use borrow.Author.Tests.{le-leb, lt-leb}
use Rattle.basics.proofs.ListLaws.{search_found, search_next, search_none}
use Rattle.basics.proofs.SearchLaws.{some_below_at, some_below_past}
use Rattle.frame.specs.Answer.{is_symbol, first_large}
use Rattle.frame.proofs.symbols.first_large.Goals as goal

pub returns-then-symbol-gt-LARGEST : goal.returns-then-symbol-gt-LARGEST
unfolding first_large
returns-then-symbol-gt-LARGEST c =
    let found = search_found is_symbol c.args.frame.now c.loop-place.place c.loop-place.invariant 0 (omega arith) (lt-leb _ _ (omega arith)) in
    sym (some_below_at _ _ _ (sym found) (omega arith))

pub loop-place-preserved : goal.loop-place-preserved
loop-place-preserved c = search_next is_symbol c.args.frame.now c.loop-place.place c.loop-place.invariant 0 (omega arith) (le-leb _ _ (omega arith))

pub returns : goal.returns
unfolding first_large
returns c =
    let none = search_none is_symbol c.args.frame.now c.loop-place.place c.loop-place.invariant (omega arith) in
    sym (some_below_past _ _ (omega (arith, none)))
