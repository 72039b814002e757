-- The readings of the codes that are left are to gather; each of the fields that are left is legal, and its code is below its count.
use Rattle.std.proofs.Common.{◌≡◌, true, map, reverse}
use Rattle.radix.specs.Numeral.{Digits}
use Rattle.extended.specs.Fields.{field_in, legal_fields, counts, field_readings}
use Rattle.extended.proofs.TableLaws.{Gathering}
use Rattle.extended.proofs.table.Table.readings.Given as goal

abbrev pub invariant-loop-three : goal.invariant-loop-three
invariant-loop-three l =
    let left = map field_in l.three-iterator.a.rest.now in
    let codes = reverse l.three-iterator.b.iter.rest.now in
    Gathering l.readings.items (field_readings left codes) (field_readings l.self (reverse l.codes))
    × ((legal_fields left ≡ true) × Digits (counts left) codes)
