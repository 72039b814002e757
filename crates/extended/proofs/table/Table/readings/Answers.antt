-- `extended::table::Table::readings` meets its contract: each turn gathers the reading of the next field's code.
-- Assumes nothing.
use Rattle.std.proofs.Common.{arith, refl, reverse, rules}
use Rattle.std.proofs.lemmas.List.{length-reverse}
use mir.Facts.{to_z-of_z}
use mir.Syntax.{w64}
use mir.Val.{SFits}
use Rattle.extended.specs.Fields.{field_reading}
use Rattle.extended.proofs.TableLaws.{legal_of_table, readings_length, first_legal, first_reading, first_below, gather_room, gather_turn, gather_ends, none_left}
use Rattle.extended.proofs.table.Table.readings.Goals as goal

pub loop-three-init : goal.loop-three-init
loop-three-init c =
    let legal = legal_of_table c.args.self.now (rw c.self.view_is at c.self.invariant) in
    rw (c.new-readings.ensures, c.into_iter-three-iterator.ensures.into_iter_gives, c.zip-three-items.ensures.first, c.zip-three-items.ensures.second, c.rev.ensures.source, c.iter.ensures.rest, c.iter-2.ensures.rest, c.self.view_is) (
      record { whole = refl; few = omega (arith, legal.few, readings_length c.args.self.now (reverse c.args.codes.now) c.requires) },
      (legal.each, c.requires),
    )

pub of-requires : goal.of-requires
of-requires c = (first_legal c.in-Some.ensures.steps.0 c.loop-three.invariant.1.0).0

pub reading_of-requires-clause-field_value : goal.reading_of-requires-clause-field_value
reading_of-requires-clause-field_value c = rw c.of.ensures (first_legal c.in-Some.ensures.steps.0 c.loop-three.invariant.1.0).0

pub reading_of-requires-clause-code_lt_count : goal.reading_of-requires-clause-code_lt_count
reading_of-requires-clause-code_lt_count c =
    let steps = c.in-Some.ensures.steps in
    rw c.of.ensures (first_below steps.0 _ _ steps.1 c.loop-three.invariant.1.1).0

pub push-requires : goal.push-requires
push-requires c =
    let steps = c.in-Some.ensures.steps in
    (omega arith, gather_room c.loop-three.invariant.0 (first_reading steps.0 _ _ steps.1))

pub loop-three-preserved : goal.loop-three-preserved
loop-three-preserved c =
    let steps = c.in-Some.ensures.steps in
    let left = c.loop-three.invariant.1 in
    let fits : SFits w64 c.reading_of.result = search rules in
    rw (c.push.ensures.items, to_z-of_z fits, c.reading_of.ensures, c.of.ensures)
    (gather_turn c.loop-three.invariant.0 (first_reading steps.0 _ _ steps.1), ((first_legal steps.0 left.0).1, (first_below steps.0 _ _ steps.1 left.1).1))

pub returns : goal.returns
returns c =
    let last = c.loop-three.three-iterator in
    let over = rw (← length-reverse last.b.iter.rest.now) at c.in-None.ensures.steps in
    gather_ends c.loop-three.invariant.0 (none_left field_reading last.a.rest.now (reverse last.b.iter.rest.now) over)
