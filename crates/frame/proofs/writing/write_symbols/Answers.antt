-- `frame::writing::write_symbols` meets its contract: the data bits are written, and made symbols.
-- Assumes nothing.
use mathlib.Core.Path.{ap, ◌∙◌}
use Rattle.frame.specs.Symbols.{with_sync, frame_of}
use Rattle.frame.proofs.SymbolLaws.{interleaved_bits}
use Rattle.frame.proofs.writing.write_symbols.Goals as goal

pub add_sync-requires : goal.add_sync-requires
add_sync-requires c =
    rw c.write_data.ensures (interleaved_bits c.args.word)

pub returns : goal.returns
unfolding frame_of
returns c = c.add_sync.ensures ∙ ap with_sync c.write_data.ensures
