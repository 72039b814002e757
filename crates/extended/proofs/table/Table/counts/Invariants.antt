-- The counts of the fields that are left, last field first, are to gather; each of these fields is legal.
use Rattle.std.proofs.Common.{◌≡◌, true, map, reverse}
use Rattle.extended.specs.Fields.{field_in, legal_fields, counts}
use Rattle.extended.proofs.TableLaws.{Gathering}
use Rattle.extended.proofs.table.Table.counts.Given as goal

abbrev pub invariant-loop-three : goal.invariant-loop-three
invariant-loop-three l =
    let left = map field_in l.three-iterator.iter.rest.now in
    Gathering l.counts.items (reverse (counts left)) (reverse (counts l.self)) × (legal_fields left ≡ true)
