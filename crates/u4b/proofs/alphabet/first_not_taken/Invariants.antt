-- `u4b::alphabet::first_not_taken` meets its contract: it looks for the first place whose character isn't taken there.
-- Assumes nothing.

use Rattle.basics.proofs.ListLaws.{Searching}
use Rattle.u4b.specs.Alphabet.{taken_at}
use Rattle.u4b.proofs.alphabet.first_not_taken.Given as goal

abbrev pub invariant-loop-i : goal.invariant-loop-i
invariant-loop-i l = Searching (taken_at l.alphabet) l.callsign l.i
