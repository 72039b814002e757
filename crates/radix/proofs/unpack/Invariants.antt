-- `radix::unpack` meets its contract. The loop's invariant: the digits by the radices that are left, of what is left of the number, and
-- those that are written behind make all its digits.
-- Assumes nothing.

use Rattle.std.proofs.Common.{◌≡◌}
use Rattle.std.specs.Iterator.Adapters.{rev_source, enumerate_source, enumerate_count}
use Rattle.std.specs.Slice.Iter.{iter_rest}
use Rattle.radix.proofs.Turns.{Unpacking}
use Rattle.radix.proofs.unpack.Given as goal

abbrev pub invariant-loop-i : goal.invariant-loop-i
invariant-loop-i l =
    (enumerate_count (rev_source l.i-iterator) ≡ 0)
    × Unpacking l.radices l.number l.digits l.rest (iter_rest (enumerate_source (rev_source l.i-iterator)))
