-- `extended::field::Field::code_of` meets its contract: in a legal field nothing leaves the width, and the clamped reading is the definition's.
-- Assumes nothing.
use Rattle.std.proofs.Common.{◌≡◌, ℕ, arith}
use lib.IntN.{ℤ, nat_abs, ◌-ℤ◌, +ℤ_idr}
use lib.Signed.{◌≤ℤ◌}
use mir.Facts.{to_z-of_z}
use mir.Syntax.{w64}
use mir.Val.{SFits, to_z, of_z}
use Rattle.std.specs.Int.{int_max, int_min}
use Rattle.basics.proofs.Integers.{+ℤ-mono-≤}
use Rattle.extended.specs.Fields.{field_reading, highest, clamped, code_of}
use Rattle.extended.specs.declared.field.Field.{Field}
use Rattle.extended.proofs.FieldLaws.{clamp_is, Legal, legal, span, span_small, step_small, lowest_fits, raised_fits64, offset, offset_within, clamped_offset}
use Rattle.extended.proofs.field.Field.code_of.Goals as goal

module _ (f : Field) (l : Legal f) where
  lowest_below : f.lowest ≤ℤ highest f
  unfolding highest field_reading
  lowest_below = rw +ℤ_idr at (+ℤ-mono-≤ f.lowest 0 (span f) (omega arith))

  highest_fits : SFits w64 (highest f)
  unfolding highest field_reading
  highest_fits = raised_fits64 f (span f) l (omega arith)

  clamped_fits : (x : ℤ) → SFits w64 (clamped f x)
  clamped_fits x = rw (clamped_offset f l x) (raised_fits64 f (offset f l x) l (offset_within f l x))

  -- How far the machine's clamped reading is above the lowest.
  above_is : (x high y : ℤ) (n : ℕ) → SFits w64 x → high ≡ highest f
      → y ≡ int_max (to_z w64 (of_z w64 f.lowest)) (int_min (to_z w64 (of_z w64 x)) (to_z w64 (of_z w64 high)))
      → n ≡ nat_abs (to_z w64 (of_z w64 y) -ℤ to_z w64 (of_z w64 f.lowest)) → n ≡ offset f l x
  unfolding clamped
  above_is x high y n fits h e k =
      let its : y ≡ clamped f x = rw (h, to_z-of_z fits, to_z-of_z (lowest_fits f l), to_z-of_z highest_fits, clamp_is f.lowest (highest f) x lowest_below) at e in
      rw (its, to_z-of_z (clamped_fits x), to_z-of_z (lowest_fits f l)) at k

pub overflow_sub-self : goal.overflow_sub-self
overflow_sub-self c = omega (arith, (legal c.args.self c.requires).two)

pub reading_of-highest-requires-clause-code_lt_count : goal.reading_of-highest-requires-clause-code_lt_count
reading_of-highest-requires-clause-code_lt_count c = omega (arith, (legal c.args.self c.requires).two)

pub clamp-y-requires : goal.clamp-y-requires
unfolding highest
clamp-y-requires c =
    let f = c.args.self in
    let l = legal f c.requires in
    rw (c.reading_of-highest.ensures, to_z-of_z (lowest_fits f l), to_z-of_z (highest_fits f l)) (lowest_below f l)

pub overflow_mul-result : goal.overflow_mul-result
unfolding highest
overflow_mul-result c =
    let f = c.args.self in
    let l = legal f c.requires in
    let n = above_is f l c.args.reading _ _ _ c.ranges.reading c.reading_of-highest.ensures c.clamp-y.ensures.value c.abs_diff.ensures in
    record { fits = omega (arith, n, offset_within f l c.args.reading, span_small f l) }

pub overflow_add-result : goal.overflow_add-result
unfolding highest
overflow_add-result c =
    let f = c.args.self in
    let l = legal f c.requires in
    let n = above_is f l c.args.reading _ _ _ c.ranges.reading c.reading_of-highest.ensures c.clamp-y.ensures.value c.abs_diff.ensures in
    record { fits = omega (arith, n, offset_within f l c.args.reading, span_small f l, step_small f l) }

pub overflow_mul-result-2 : goal.overflow_mul-result-2
overflow_mul-result-2 c = record { fits = omega (arith, step_small c.args.self (legal c.args.self c.requires)) }

pub nonzero_div-result : goal.nonzero_div-result
nonzero_div-result c = omega (arith, (legal c.args.self c.requires).positive)

pub returns : goal.returns
unfolding highest code_of
returns c =
    let f = c.args.self in
    let l = legal f c.requires in
    let n = above_is f l c.args.reading _ _ _ c.ranges.reading c.reading_of-highest.ensures c.clamp-y.ensures.value c.abs_diff.ensures in
    rw n
