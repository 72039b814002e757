-- `extended::field::Field::reading_of` meets its contract: the reading of a code of a legal field fits signed 32 bits, and so the width.
-- Assumes nothing.
use Rattle.std.proofs.Common.{◌≡◌, ℕ, ◌*◌, ◌≤◌, arith}
use Rattle.std.proofs.lemmas.Int.{to_z_pos}
use lib.IntN.{pos, ◌+ℤ◌}
use mir.Facts.{to_z-of_z}
use mir.Syntax.{w64}
use mir.Val.{to_z, of_z}
use Rattle.extended.specs.Fields.{field_reading}
use Rattle.extended.specs.declared.field.Field.{Field}
use Rattle.extended.proofs.FieldLaws.{Legal, legal, span, code_within, span_small, lowest_fits, raised_fits64}
use Rattle.extended.proofs.field.Field.reading_of.Goals as goal

pub overflow_mul-result : goal.overflow_mul-result
overflow_mul-result c =
    let f = c.args.self in
    record { fits = omega (arith, code_within f c.args.code c.requires.code_lt_count, span_small f (legal f c.requires.field_value)) }

pub overflow_cast-result : goal.overflow_cast-result
overflow_cast-result c =
    let f = c.args.self in
    record { sfits = omega (arith, code_within f c.args.code c.requires.code_lt_count, span_small f (legal f c.requires.field_value)) }

-- The machine's sum is that of the definition.
sum_is : (f : Field) (n : ℕ) → Legal f → n ≤ span f → (to_z w64 (of_z w64 f.lowest) +ℤ to_z w64 n) ≡ (f.lowest +ℤ pos n)
sum_is f n l h = rw (to_z-of_z (lowest_fits f l), to_z_pos w64 n (omega (arith, h, span_small f l)))

pub overflow_add-result : goal.overflow_add-result
overflow_add-result c =
    let f = c.args.self in
    let l = legal f c.requires.field_value in
    let within = code_within f c.args.code c.requires.code_lt_count in
    rw (sum_is f (c.args.code * f.step) l within) (raised_fits64 f (c.args.code * f.step) l within)

pub returns : goal.returns
unfolding field_reading
returns c =
    let f = c.args.self in
    let l = legal f c.requires.field_value in
    let within = code_within f c.args.code c.requires.code_lt_count in
    rw (sum_is f (c.args.code * f.step) l within, to_z-of_z (raised_fits64 f (c.args.code * f.step) l within))
