-- `frame::writing::add_sync` meets its contract: each turn makes the symbol of a place of its data bit.
-- Assumes nothing.
use mathlib.Core.Path.{sym, ◌∙◌}
use native.Mathlib.Omega.{arith}
use Rattle.basics.proofs.Filling.{fill_ends}
use Rattle.frame.specs.Symbols.{with_sync}
use Rattle.frame.proofs.Replacing.{replace_starts, replace_turn}
use Rattle.frame.proofs.SymbolLaws.{sync_read, sync_below, length_with_sync, get_d_with_sync}
use Rattle.frame.proofs.writing.add_sync.Goals as goal

pub loop-place-init : goal.loop-place-init
loop-place-init c =
    let old = c.args.frame.now in
    replace_starts (with_sync old) old (c.requires.right_length ∙ sym (length_with_sync old))

pub overflow_add-symbol : goal.overflow_add-symbol
overflow_add-symbol c =
    let place = c.loop-place.place in
    omega (arith, c.loop-place.invariant.rest place (omega arith), c.requires.are_bits place (omega arith), sync_read place c.sync_vector-sync.ensures, sync_below place)

pub loop-place-preserved : goal.loop-place-preserved
loop-place-preserved c =
    let old = c.args.frame.now in
    let place = c.loop-place.place in
    let bit = c.loop-place.invariant.rest place (omega arith) in
    replace_turn (with_sync old) old c.loop-place.frame place _ (omega (arith, length_with_sync old))
    (rw (sync_read place c.sync_vector-sync.ensures, bit) (sym (get_d_with_sync old place (omega arith)))) c.loop-place.invariant

pub returns : goal.returns
returns c =
    let old = c.args.frame.now in
    fill_ends (with_sync old) c.loop-place.frame c.loop-place.place (omega (arith, length_with_sync old)) c.loop-place.invariant.filled
