-- `extended::table::Table::counts` meets its contract: each turn gathers the count of the last field that is left.
-- Assumes nothing.
use Rattle.std.proofs.Common.{arith, refl}
use Rattle.std.proofs.lemmas.List.{nil_from_length}
use Rattle.extended.proofs.TableLaws.{legal_of_table, reversed_counts_length, last_legal, last_count, gather_room, gather_turn, gather_ends}
use Rattle.extended.proofs.table.Table.counts.Goals as goal

pub loop-three-init : goal.loop-three-init
loop-three-init c =
    let legal = legal_of_table c.args.self.now (rw c.self.view_is at c.self.invariant) in
    rw (c.new-counts.ensures, c.into_iter-three-iterator.ensures.into_iter_gives, c.rev-three-items.ensures.source, c.iter.ensures.rest, c.self.view_is)
    (record { whole = refl; few = omega (arith, legal.few, reversed_counts_length c.args.self.now) }, legal.each)

pub of-requires : goal.of-requires
of-requires c = (last_legal _ _ c.in-Some.ensures.steps c.loop-three.invariant.1).0

pub push-requires : goal.push-requires
push-requires c = (omega arith, gather_room c.loop-three.invariant.0 (last_count _ _ c.in-Some.ensures.steps))

pub loop-three-preserved : goal.loop-three-preserved
loop-three-preserved c =
    rw (c.push.ensures.items, c.of.ensures)
    (gather_turn c.loop-three.invariant.0 (last_count _ _ c.in-Some.ensures.steps), (last_legal _ _ c.in-Some.ensures.steps c.loop-three.invariant.1).1)

pub returns : goal.returns
returns c =
    let none = nil_from_length c.loop-three.three-iterator.iter.rest.now c.in-None.ensures.steps.0 in
    record { value = gather_ends c.loop-three.invariant.0 (rw none); legal = rw c.self.view_is at c.self.invariant }
