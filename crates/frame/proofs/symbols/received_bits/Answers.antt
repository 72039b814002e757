-- `frame::symbols::received_bits` meets its contract: each turn puts the data bit of a place at its index.
-- Assumes nothing.
use Rattle.std.proofs.Common.{◌≡◌, ◌∙◌, ◌/◌, ap, refl, length, arith}
use Rattle.std.proofs.lemmas.Slice.Zip.{zip_turn, zip_end}
use Rattle.std.proofs.lemmas.List.{length_push}
use Rattle.basics.proofs.ListLaws.{length_tabulate, by_rule}
use Rattle.interleaver.specs.Places.{place_of, index_at, all_places, all_indexes}
use Rattle.interleaver.proofs.PlaceLaws.{get_d_places, places_indexes}
use Rattle.interleaver.proofs.Placing.{placing_starts, placing_turn, placing_ends}
use Rattle.frame.specs.Symbols.{data_at, received_bits}
use Rattle.frame.proofs.symbols.received_bits.Goals as goal

length_indexes : length all_indexes ≡ 162
unfolding all_indexes
length_indexes = length_tabulate 162 index_at

pub loop-symbol-init : goal.loop-symbol-init
loop-symbol-init c = placing_starts all_indexes (data_at c.args.frame.now) _ refl

pub loop-symbol-preserved : goal.loop-symbol-preserved
loop-symbol-preserved c =
    let frame = c.args.frame.now in
    let yielded = c.loop-symbol.yielded in
    let place = length yielded in
    let turn = zip_turn frame all_indexes yielded c.into_iter-symbol-iterator.result c.loop-symbol.symbol-iterator c.next.new.self c.next.result (cc) (cc) c.loop-symbol.yielded_by _ c.in-Some.is c.next.ensures.steps in
    let bit : c.in-Some.symbol.now / 2 ≡ data_at frame place = ap (λ s. s / 2) (turn.2 0) in
    rw (length_push yielded (c.in-Some.symbol, c.in-Some.index), c.from.ensures, turn.3 0)
    (placing_turn all_indexes all_places places_indexes.places_back (data_at frame) c.loop-symbol.received place _ (omega (arith, turn.0)) bit c.loop-symbol.invariant)

pub returns : goal.returns
unfolding received_bits
returns c =
    let frame = c.args.frame.now in
    let over = zip_end frame all_indexes c.loop-symbol.yielded c.into_iter-symbol-iterator.result c.loop-symbol.symbol-iterator c.next.new.self c.next.result (cc) (cc) c.loop-symbol.yielded_by c.in-None.is c.next.ensures.steps in
    by_rule 162 (λ index. data_at frame (place_of index)) c.loop-symbol.received c.loop-symbol.invariant.same
    (λ index h.
    placing_ends all_indexes all_places places_indexes.indexes_back (data_at frame) c.loop-symbol.received (length c.loop-symbol.yielded) (omega (arith, over, length_indexes)) c.loop-symbol.invariant index h
    ∙ ap (data_at frame) (get_d_places index))
