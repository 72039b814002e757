-- `frame::symbols::first_large` meets its contract: it looks for the first place whose symbol is above 3.
-- Assumes nothing.

use Rattle.basics.proofs.ListLaws.{Searching}
use Rattle.frame.specs.Answer.{is_symbol}
use Rattle.frame.proofs.symbols.first_large.Given as goal

abbrev pub invariant-loop-place : goal.invariant-loop-place
invariant-loop-place l = Searching is_symbol l.frame l.place
