-- `frame::symbols::wrong_sync` meets its contract: each turn counts a place.
-- Assumes nothing.
use Rattle.std.proofs.Common.{◌≡◌, ◌+◌, ◌∙◌, sym, ap, not, ◌%◌, length, get_or, arith}
use borrow.Author.Tests.{eq-eqb, ne_eqb}
use Rattle.std.proofs.lemmas.Slice.Zip.{zip_turn, zip_end}
use Rattle.std.proofs.lemmas.List.{length_push}
use Rattle.basics.proofs.BelowLaws.{count_none, count_raised, count_kept}
use Rattle.frame.specs.Symbols.{sync_vector, sync_at, unsynced_at, wrong_sync_in}
use Rattle.frame.proofs.SymbolLaws.{length_sync}
use Rattle.frame.proofs.symbols.wrong_sync.Goals as goal

pub loop-symbol-init : goal.loop-symbol-init
loop-symbol-init c = (omega arith, (omega arith, sym (count_none 0 (unsynced_at c.args.frame.now) (λ i h. absurd (omega arith)))))

pub loop-symbol-preserved-then-symbol-sync_bit : goal.loop-symbol-preserved-then-symbol-sync_bit
unfolding sync_at
loop-symbol-preserved-then-symbol-sync_bit c =
    let frame = c.args.frame.now in
    let yielded = c.loop-symbol.yielded in
    let place = length yielded in
    let turn = zip_turn frame sync_vector yielded c.into_iter-symbol-iterator.result c.loop-symbol.symbol-iterator c.next.new.self c.next.result (cc) (cc) c.loop-symbol.yielded_by _ c.in-Some.is c.next.ensures.steps in
    let wrong = ne_eqb (get_or frame place 0 % 2) (sync_at place) (λ e. c.if-symbol-sync_bit.true (ap (λ s. s % 2) (turn.2 0) ∙ e ∙ sym (turn.3 0))) in
    rw (length_push yielded (c.in-Some.symbol, c.in-Some.sync_bit))
    (omega (arith, turn.0), (omega arith, ap (λ n. n + 1) c.loop-symbol.invariant.1.1 ∙ sym (count_raised place (unsynced_at frame) (ap not wrong))))

pub loop-symbol-preserved : goal.loop-symbol-preserved
unfolding sync_at
loop-symbol-preserved c =
    let frame = c.args.frame.now in
    let yielded = c.loop-symbol.yielded in
    let place = length yielded in
    let turn = zip_turn frame sync_vector yielded c.into_iter-symbol-iterator.result c.loop-symbol.symbol-iterator c.next.new.self c.next.result (cc) (cc) c.loop-symbol.yielded_by _ c.in-Some.is c.next.ensures.steps in
    let right = eq-eqb (get_or frame place 0 % 2) (sync_at place) (sym (ap (λ s. s % 2) (turn.2 0)) ∙ c.if-symbol-sync_bit.false ∙ turn.3 0) in
    rw (length_push yielded (c.in-Some.symbol, c.in-Some.sync_bit))
    (omega (arith, turn.0), (omega arith, c.loop-symbol.invariant.1.1 ∙ sym (count_kept place (unsynced_at frame) (ap not right))))

pub returns : goal.returns
unfolding wrong_sync_in
returns c =
    let frame = c.args.frame.now in
    let over = zip_end frame sync_vector c.loop-symbol.yielded c.into_iter-symbol-iterator.result c.loop-symbol.symbol-iterator c.next.new.self c.next.result (cc) (cc) c.loop-symbol.yielded_by c.in-None.is c.next.ensures.steps in
    let all : length c.loop-symbol.yielded ≡ 162 = omega (arith, over, length_sync) in
    rw all at c.loop-symbol.invariant.1.1
