-- The counts and the codes of the fields that are left, last field first, are to gather; each of these fields is legal.
use Rattle.std.proofs.Common.{◌≡◌, true, map, reverse, length}
use Rattle.extended.specs.Fields.{field_in, legal_fields, counts, codes_of}
use Rattle.extended.proofs.TableLaws.{Gathering}
use Rattle.extended.proofs.table.Table.pack.Given as goal

abbrev pub invariant-loop-three : goal.invariant-loop-three
invariant-loop-three l =
    let threes = l.three-iterator.a.iter.rest.now in
    let readings = l.three-iterator.b.iter.rest.now in
    let left = map field_in threes in
    Gathering l.counts.items (reverse (counts left)) (reverse (counts l.self))
    × (Gathering l.codes.items (reverse (codes_of left readings)) (reverse (codes_of l.self l.readings))
    × ((legal_fields left ≡ true) × (length readings ≡ length threes)))
