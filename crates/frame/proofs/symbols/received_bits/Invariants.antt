-- `frame::symbols::received_bits` meets its contract: each turn puts the data bit of a place at its index.
-- Assumes nothing.

use lib.ListN.{length}
use Rattle.interleaver.specs.Places.{all_indexes}
use Rattle.interleaver.proofs.Placing.{Placing}
use Rattle.frame.specs.Symbols.{data_at}
use Rattle.frame.proofs.symbols.received_bits.Given as goal

abbrev pub invariant-loop-symbol : goal.invariant-loop-symbol
invariant-loop-symbol l = Placing all_indexes (data_at l.frame) l.received (length l.yielded)
