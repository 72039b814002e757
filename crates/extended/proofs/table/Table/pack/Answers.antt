-- `extended::table::Table::pack` meets its contract: each turn gathers the count of the last field and the code of the last reading that are
-- left.
-- Assumes nothing.
use Rattle.std.proofs.Common.{◌≡◌, refl, sym, ap, ◌∙◌, true, ℕ, ◌^◌, ◌≤◌, List, [], map, reverse, length, arith, rules}
use Rattle.std.proofs.lemmas.List.{length-map}
use mathlib.Core.List.{zip_with}
use lib.IntN.{ℤ}
use mir.Facts.{to_z-of_z}
use mir.Syntax.{w64}
use mir.Val.{SFits}
use Rattle.radix.specs.Numeral.{Digits, count}
use Rattle.radix.proofs.Laws.{count_reverse, digits_reverse}
use Rattle.extended.specs.Fields.{field_in, legal_table, counts, codes_of}
use Rattle.extended.specs.declared.field.Field.{Field}
use Rattle.extended.proofs.TableLaws.{Gathering, legal_of_table, reversed_counts_length, codes_length, codes_below, last_legal, last_count, last_code, same_left, gather_room, gather_turn, gather_ends, no_field_left}
use Rattle.extended.proofs.table.Table.pack.Goals as goal

pub loop-three-init : goal.loop-three-init
loop-three-init c =
    let fs = c.args.self.now in
    let legal = legal_of_table fs (rw c.self.view_is at c.self.invariant) in
    let same : length c.self.inside.fields.now ≡ length c.args.self.now = sym (length-map c.self.inside.fields.now field_in) ∙ ap length c.self.view_is in
    rw (
      c.new-counts.ensures,
      c.new-codes.ensures,
      c.into_iter-three-iterator.ensures.into_iter_gives,
      c.zip-three-items.ensures.first,
      c.zip-three-items.ensures.second,
      c.rev.ensures.source,
      c.rev-2.ensures.source,
      c.iter.ensures.rest,
      c.iter-2.ensures.rest,
      c.self.view_is,
    ) (
      record { whole = refl; few = omega (arith, legal.few, reversed_counts_length fs) },
      (record { whole = refl; few = omega (arith, legal.few, codes_length fs c.args.readings.now c.requires) }, (legal.each, omega (arith, same, c.requires))),
    )

pub of-field-requires : goal.of-field-requires
of-field-requires c = (last_legal _ _ c.in-Some.ensures.steps.0 c.loop-three.invariant.1.1.0).0

pub push-requires : goal.push-requires
push-requires c = (omega arith, gather_room c.loop-three.invariant.0 (last_count _ _ c.in-Some.ensures.steps.0))

pub code_of-requires : goal.code_of-requires
code_of-requires c = rw c.of-field.ensures (last_legal _ _ c.in-Some.ensures.steps.0 c.loop-three.invariant.1.1.0).0

pub push-requires-in-loop-three : goal.push-requires-in-loop-three
push-requires-in-loop-three c =
    let (codes, left) = c.loop-three.invariant.1 in
    (omega arith, gather_room codes (last_code _ _ c.in-Some.ensures.steps.0 _ _ c.in-Some.ensures.steps.1 left.1))

pub loop-three-preserved : goal.loop-three-preserved
loop-three-preserved c =
    let steps = c.in-Some.ensures.steps in
    let (codes, left) = c.loop-three.invariant.1 in
    let fits : SFits w64 c.in-Some.field-0-1.now = search rules in
    rw (c.push.ensures.items, c.push-in-loop-three.ensures.items, c.code_of.ensures, c.of-field.ensures, to_z-of_z fits) (
      gather_turn c.loop-three.invariant.0 (last_count _ _ steps.0),
      (gather_turn codes (last_code _ _ steps.0 _ _ steps.1 left.1), ((last_legal _ _ steps.0 left.0).1, same_left _ _ steps.0 _ _ steps.1 left.1)),
    )

-- What is gathered once no field is left.
module _ (fs : List Field) (readings : List ℤ) (threes : List (List ℤ)) (xs : List ℤ) (radices digits : List ℕ) (none : threes ≡ [])
    (its_counts : Gathering radices (reverse (counts (map field_in threes))) (reverse (counts fs)))
    (its_codes : Gathering digits (reverse (codes_of (map field_in threes) xs)) (reverse (codes_of fs readings))) where
  all_counts : radices ≡ reverse (counts fs)
  all_counts = gather_ends its_counts (rw none)

  all_codes : digits ≡ reverse (codes_of fs readings)
  unfolding zip_with
  all_codes = gather_ends its_codes (rw none)

  module _ (t : legal_table fs ≡ true) (same : length readings ≡ length fs) where
    all_digits : Digits radices digits
    all_digits =
        rw (all_counts, all_codes)
        (digits_reverse (counts fs) (codes_of fs readings) (codes_below fs readings (legal_of_table fs t).each same))

    small : count radices ≤ 2 ^ 64
    small = rw all_counts (omega (arith, count_reverse (counts fs), (legal_of_table fs t).product))

pub pack-requires-clause-digits : goal.pack-requires-clause-digits
pack-requires-clause-digits c =
    let last = c.loop-three.three-iterator in
    let (its_counts, rest) = c.loop-three.invariant in
    let none = no_field_left last.a.iter.rest.now last.b.iter.rest.now rest.1.1 c.in-None.ensures.steps in
    rw (c.as_slice.ensures.value, c.as_slice-2.ensures.value)
    (all_digits c.args.self.now c.args.readings.now _ _ _ _ none its_counts rest.0 (rw c.self.view_is at c.self.invariant) c.requires)

pub pack-requires-clause-radices_bound : goal.pack-requires-clause-radices_bound
pack-requires-clause-radices_bound c =
    let last = c.loop-three.three-iterator in
    let (its_counts, rest) = c.loop-three.invariant in
    let none = no_field_left last.a.iter.rest.now last.b.iter.rest.now rest.1.1 c.in-None.ensures.steps in
    rw c.as_slice.ensures.value
    (small c.args.self.now c.args.readings.now _ _ _ _ none its_counts rest.0 (rw c.self.view_is at c.self.invariant) c.requires)

pub returns : goal.returns
returns c =
    let last = c.loop-three.three-iterator in
    let (its_counts, rest) = c.loop-three.invariant in
    let none = no_field_left last.a.iter.rest.now last.b.iter.rest.now rest.1.1 c.in-None.ensures.steps in
    let fs = c.args.self.now in
    let xs = c.args.readings.now in
    record {
      value = rw (c.as_slice.ensures.value, c.as_slice-2.ensures.value, all_counts fs xs _ _ _ _ none its_counts rest.0, all_codes fs xs _ _ _ _ none its_counts rest.0) at c.pack.ensures;
      legal = rw c.self.view_is at c.self.invariant;
    }
