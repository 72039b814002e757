-- `convolution::decode` meets its contract: each turn finds the bit of a pair.
-- Assumes nothing.

use Rattle.std.proofs.Common.{◌≡◌}
use Rattle.std.specs.Iterator.Adapters.{take_source, take_count}
use Rattle.std.specs.Slice.Iter.{chunks_exact_rest, chunks_exact_size}
use Rattle.convolution.proofs.Turns.{Decoding}
use Rattle.convolution.proofs.decode.Given as goal

abbrev pub invariant-loop-pair : goal.invariant-loop-pair
invariant-loop-pair l =
    (chunks_exact_size (take_source l.pair-iterator) ≡ 2)
    × Decoding l.fn.coded l.word l.register (take_count l.pair-iterator) (chunks_exact_rest (take_source l.pair-iterator))
