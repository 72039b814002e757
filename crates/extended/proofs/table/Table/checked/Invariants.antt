-- The fields before this one are legal, and `product` is that of their counts: what is left to test is the rest.
use Rattle.std.proofs.Common.{map}
use Rattle.extended.specs.Fields.{field_in}
use Rattle.extended.proofs.TableLaws.{Testing}
use Rattle.extended.proofs.table.Table.checked.Given as goal

abbrev pub invariant-loop-three : goal.invariant-loop-three
invariant-loop-three l = Testing (map field_in l.fields) l.product l.three-index
