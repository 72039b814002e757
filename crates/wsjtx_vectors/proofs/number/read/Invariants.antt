-- `wsjtx_vectors::number::read` meets its contract. The loop's invariant: going on from the number with the digits that are left gives
-- what the whole numeral writes, and the number is below the base to the power of the digits passed.
-- Assumes nothing.

use Rattle.wsjtx_vectors.proofs.NumberLaws.{Reading}
use Rattle.wsjtx_vectors.proofs.number.read.Given as goal

abbrev pub invariant-loop-byte : goal.invariant-loop-byte
invariant-loop-byte l = Reading l.base l.numeral l.number l.byte-index
