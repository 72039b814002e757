-- `convolution::encode` meets its contract: each turn writes the two coded bits of a step.
-- Assumes nothing.

use Rattle.convolution.proofs.Turns.{Encoding}
use Rattle.convolution.proofs.encode.Given as goal

abbrev pub invariant-loop-step : goal.invariant-loop-step
invariant-loop-step l = Encoding l.word l.coded l.register l.step
