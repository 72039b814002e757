-- `frame::writing::write_data` meets its contract: each turn puts the two coded bits of a step at their places.
-- Assumes nothing.

use Prim.Native.Nat.{ℕ, ◌*◌}
use lib.ListN.{get_or}
use Rattle.convolution.specs.Code.{coded_bits}
use Rattle.convolution.proofs.Coding.{Coding}
use Rattle.interleaver.proofs.Placing.{Placing}
use Rattle.frame.proofs.writing.write_data.Given as goal

abbrev pub coded : ℕ → ℕ → ℕ
coded word index = get_or (coded_bits word) index 0

abbrev pub invariant-loop-step : goal.invariant-loop-step
invariant-loop-step l = Placing l.places (coded l.word) l.frame (2 * l.step) × Coding l.word l.register l.step
