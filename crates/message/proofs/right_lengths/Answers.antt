-- `message::right_lengths` meets its contract: the second test is asked only where the first holds.
-- Assumes nothing.
use native.Mathlib.Omega.{arith}
use borrow.Author.Tests.{eq-eqb, ne_eqb}
use Rattle.message.specs.Answer.{right_lengths}
use Rattle.message.proofs.right_lengths.Goals as goal

pub returns-then-callsign-eq6 : goal.returns-then-callsign-eq6
unfolding right_lengths
returns-then-callsign-eq6 c = rw (eq-eqb c.args.callsign 6 (omega arith))

pub returns-else-callsign-eq6 : goal.returns-else-callsign-eq6
unfolding right_lengths
returns-else-callsign-eq6 c = rw (ne_eqb c.args.callsign 6 (λ e. omega arith))
