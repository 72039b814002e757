-- `extended::number::payload_from` meets its contract: the two numerals are those of the codes and of what stands beside them.
-- Assumes nothing.
use Rattle.std.proofs.Common.{◌≡◌, true, ◌<◌, List, reverse, length, arith}
use lib.IntN.{ℤ}
use Rattle.radix.specs.Numeral.{Digits, number_of}
use Rattle.extended.specs.Fields.{legal_table, counts, codes_of}
use Rattle.extended.specs.Number.{header_radices, header_digits}
use Rattle.extended.specs.Answer.{legal_slot_and_type}
use Rattle.extended.specs.declared.field.Field.{Field}
use Rattle.extended.specs.declared.Header.{Header}
use Rattle.extended.proofs.TableLaws.{legal_of_table, codes_below}
use Rattle.extended.proofs.NumberLaws.{header_count, header_below, upper_below, lower_below, payload_is}
use Rattle.extended.proofs.number.payload_from.Goals as goal

module _ (fs : List Field) (readings : List ℤ) (t : legal_table fs ≡ true) (same : length readings ≡ length fs) where
  below : Digits (counts fs) (codes_of fs readings)
  below = codes_below fs readings (legal_of_table fs t).each same

  -- Both numerals are small.
  numerals_small : (h : Header) → legal_slot_and_type h ≡ true → (number_of (reverse (counts fs)) (reverse (codes_of fs readings)) < 608_612_940)
      × (number_of header_radices (header_digits h) < 640)
  numerals_small h k =
      (upper_below h fs (codes_of fs readings) k below (legal_of_table fs t).product, lower_below h fs (codes_of fs readings) k below)

pub pack-lower-requires-clause-digits : goal.pack-lower-requires-clause-digits
unfolding header_radices header_digits
pack-lower-requires-clause-digits c = rw (c.from.ensures, c.from-2.ensures) (header_below c.args.header c.requires.header_value)

pub pack-lower-requires-clause-radices_bound : goal.pack-lower-requires-clause-radices_bound
unfolding header_radices
pack-lower-requires-clause-radices_bound c = omega (arith, header_count)

pub overflow_mul-number : goal.overflow_mul-number
overflow_mul-number c =
    let small = numerals_small c.args.table.now c.args.readings.now c.pack-upper.ensures.legal c.requires.readings_len c.args.header c.requires.header_value in
    record { fits = omega (arith, small.0, c.pack-upper.ensures.value) }

pub overflow_add-number : goal.overflow_add-number
unfolding header_radices header_digits
overflow_add-number c =
    let small = numerals_small c.args.table.now c.args.readings.now c.pack-upper.ensures.legal c.requires.readings_len c.args.header c.requires.header_value in
    let lower = rw (c.from.ensures, c.from-2.ensures) at c.pack-lower.ensures in
    record { fits = omega (arith, small.0, small.1, c.pack-upper.ensures.value, lower) }

pub returns : goal.returns
unfolding header_radices header_digits
returns c =
    let fs = c.args.table.now in
    let xs = c.args.readings.now in
    payload_is c.args.header fs (codes_of fs xs) c.requires.header_value (below fs xs c.pack-upper.ensures.legal c.requires.readings_len) c.pack-upper.result c.pack-lower.result
    c.pack-upper.ensures.value (rw (c.from.ensures, c.from-2.ensures) at c.pack-lower.ensures)
