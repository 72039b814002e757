-- `frame::writing::add_sync` meets its contract: each turn makes the symbol of a place of its data bit.
-- Assumes nothing.

use Rattle.frame.specs.Symbols.{with_sync}
use Rattle.frame.proofs.Replacing.{Replacing}
use Rattle.frame.proofs.writing.add_sync.Given as goal

abbrev pub invariant-loop-place : goal.invariant-loop-place
invariant-loop-place l = Replacing (with_sync l.initial.frame) l.initial.frame l.frame l.place
