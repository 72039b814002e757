-- `radix::pack` meets its contract. The loop's invariant: going on from the number with the radices and digits that are left
-- gives the number of all the digits.
-- Assumes nothing.

use Rattle.std.specs.Iterator.Adapters.{zip_first, zip_second}
use Rattle.std.specs.Slice.Iter.{iter_rest}
use Rattle.radix.proofs.Turns.{Packing}
use Rattle.radix.proofs.pack.Given as goal

abbrev pub invariant-loop-radix : goal.invariant-loop-radix
invariant-loop-radix l =
    Packing l.radices l.digits l.number (iter_rest (zip_first l.radix-iterator)) (iter_rest (zip_second l.radix-iterator))
