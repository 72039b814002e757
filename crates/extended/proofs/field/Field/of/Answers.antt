-- `extended::field::Field::of` meets its contract: a legal field's numbers are read as they are.
-- Assumes nothing.
use Rattle.std.proofs.Common.{arith}
use mir.Facts.{to_z-of_z}
use Rattle.extended.proofs.FieldLaws.{three}
use Rattle.extended.proofs.field.Field.of.Goals as goal

pub overflow_cast-result : goal.overflow_cast-result
overflow_cast-result c =
    let t = three _ _ _ c.requires in
    rw (to_z-of_z t.step_fits) (t.step_positive, record { fits = omega (arith, t.step_small) })

pub overflow_cast-result-2 : goal.overflow_cast-result-2
overflow_cast-result-2 c =
    let t = three _ _ _ c.requires in
    rw (to_z-of_z t.count_fits) (t.count_positive, record { fits = omega (arith, t.count_small) })

pub returns : goal.returns
returns c =
    let t = three _ _ _ c.requires in
    rw (to_z-of_z t.lowest_fits, to_z-of_z t.step_fits, to_z-of_z t.count_fits) t.is
