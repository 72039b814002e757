-- `extended::number::read_payload` meets its contract: its tests are the definition's, one after the other, and its digits are the number's.
-- Assumes nothing.
use Rattle.std.proofs.Common.{◌≡◌, sym, ◌∙◌, true, ℕ, ◌/◌, List, reverse, length, ap, arith}
use Rattle.radix.specs.Numeral.{Digits, Positive, count, digits_of}
use Rattle.u4b.specs.declared.Payload.{Payload}
use Rattle.extended.specs.Fields.{fields_of, legal_table, counts}
use Rattle.extended.specs.Number.{header_radices, payload_number, header_in, codes_in, left_over}
use Rattle.extended.specs.declared.field.Field.{Field}
use Rattle.extended.proofs.TableLaws.{not_legal_table, legal_of_table, counts_positive, readings_length}
use Rattle.extended.proofs.NumberLaws.{header_positive, reverse_positive, codes_in_range, header_read, slot_below, kind_below, left_is}
use Rattle.extended.proofs.AnswerLaws.{payload_basic, payload_table, payload_reserved, payload_over, payload_header, after_refused, after_extended}
use Rattle.extended.proofs.number.read_payload.Goals as goal

-- What is left above the fields, and the codes, by the counts that are written.
module _ (fs : List Field) (t : legal_table fs ≡ true) (radices : List ℕ) (its_radices : radices ≡ reverse (counts fs)) where
  radices_positive : Positive radices
  radices_positive = rw its_radices (reverse_positive (counts fs) (counts_positive fs (legal_of_table fs t).each))

  module _ (p : Payload) (rest : ℕ) (above : rest ≡ payload_number p / count header_radices) where
    left_of : (left : ℕ) → left ≡ rest / count radices → left ≡ left_over fs (payload_number p)
    left_of left e = (rw (its_radices, above) at e) ∙ sym (left_is fs (payload_number p))

    module _ (digits : List ℕ) (e : digits ≡ digits_of radices rest) where
      codes_are : reverse digits ≡ codes_in fs (payload_number p)
      unfolding codes_in
      codes_are = rw (e, its_radices, above)

      in_range : Digits (counts fs) (reverse digits)
      in_range = rw codes_are (codes_in_range fs (payload_number p) (legal_of_table fs t).each)

pub unpack-rest-requires-clause-positive : goal.unpack-rest-requires-clause-positive
unfolding header_radices
unpack-rest-requires-clause-positive c = header_positive

pub returns-then-telemetry_type-ne0 : goal.returns-then-telemetry_type-ne0
returns-then-telemetry_type-ne0 c =
    let read = header_read c.args.payload _ _ c.unpack-rest.ensures.written c.unpack-rest.ensures.rest in
    let its = payload_basic (fields_of c.args.fields.now) c.args.payload (rw read.telemetry_type at c.if-telemetry_type-ne0.true) in
    record { answer = sym its; readings_after = sym (after_refused _ _ _ _ its) }

pub returns-in_default : goal.returns-in_default
returns-in_default c =
    let fs = fields_of c.args.fields.now in
    let read = header_read c.args.payload _ _ c.unpack-rest.ensures.written c.unpack-rest.ensures.rest in
    let its = payload_table fs c.args.payload (sym read.telemetry_type ∙ c.if-telemetry_type-ne0.false) (not_legal_table fs c.in_default.ensures) in
    record { answer = sym its; readings_after = sym (after_refused _ _ _ _ its) }

pub returns-then-reserved-ne0 : goal.returns-then-reserved-ne0
returns-then-reserved-ne0 c =
    let read = header_read c.args.payload _ _ c.unpack-rest.ensures.written c.unpack-rest.ensures.rest in
    let its = payload_reserved (fields_of c.args.fields.now) c.args.payload (sym read.telemetry_type ∙ c.if-telemetry_type-ne0.false) c.in-Some.ensures.0 (rw read.reserved at c.if-reserved-ne0.true) in
    record { answer = sym its; readings_after = sym (after_refused _ _ _ _ its) }

pub unpack-left-requires-clause-positive : goal.unpack-left-requires-clause-positive
unpack-left-requires-clause-positive c = radices_positive c.in-Some.table c.counts-counts.ensures.legal _ (c.as_slice.ensures.value ∙ c.counts-counts.ensures.value)

pub returns-then-left-ne0 : goal.returns-then-left-ne0
returns-then-left-ne0 c =
    let fs = fields_of c.args.fields.now in
    let read = header_read c.args.payload _ _ c.unpack-rest.ensures.written c.unpack-rest.ensures.rest in
    let left = left_of fs c.in-Some.ensures.0 _ (rw c.in-Some.ensures.1 at (c.as_slice.ensures.value ∙ c.counts-counts.ensures.value)) c.args.payload _ read.above _ c.unpack-left.ensures.rest in
    let its = payload_over fs c.args.payload (sym read.telemetry_type ∙ c.if-telemetry_type-ne0.false) c.in-Some.ensures.0 (sym read.reserved ∙ c.if-reserved-ne0.false) (rw left at c.if-left-ne0.true) in
    record { answer = sym its; readings_after = sym (after_refused _ _ _ _ its) }

pub readings-requires : goal.readings-requires
readings-requires c =
    let read = header_read c.args.payload _ _ c.unpack-rest.ensures.written c.unpack-rest.ensures.rest in
    in_range c.in-Some.table c.counts-counts.ensures.legal _ (c.as_slice.ensures.value ∙ c.counts-counts.ensures.value) c.args.payload _ read.above _ c.unpack-left.ensures.written

pub copy_from_slice-requires : goal.copy_from_slice-requires
copy_from_slice-requires c =
    let read = header_read c.args.payload _ _ c.unpack-rest.ensures.written c.unpack-rest.ensures.rest in
    let below = in_range c.in-Some.table c.counts-counts.ensures.legal _ (c.as_slice.ensures.value ∙ c.counts-counts.ensures.value) c.args.payload _ read.above _ c.unpack-left.ensures.written in
    rw (c.as_slice-2.ensures.value, c.readings.ensures) (omega (arith, c.requires.readings_len, ap length c.in-Some.ensures.1, readings_length _ _ below))

pub overflow_cast-result : goal.overflow_cast-result
overflow_cast-result c =
    let read = header_read c.args.payload _ _ c.unpack-rest.ensures.written c.unpack-rest.ensures.rest in
    record { fits = omega (arith, read.slot, slot_below (payload_number c.args.payload)) }

pub overflow_cast-result-2 : goal.overflow_cast-result-2
overflow_cast-result-2 c =
    let read = header_read c.args.payload _ _ c.unpack-rest.ensures.written c.unpack-rest.ensures.rest in
    record { fits = omega (arith, read.kind, kind_below (payload_number c.args.payload)) }

pub returns : goal.returns
unfolding header_in
returns c =
    let fs = fields_of c.args.fields.now in
    let t = c.in-Some.ensures.0 in
    let radices = rw c.in-Some.ensures.1 at (c.as_slice.ensures.value ∙ c.counts-counts.ensures.value) in
    let read = header_read c.args.payload _ _ c.unpack-rest.ensures.written c.unpack-rest.ensures.rest in
    let left = left_of fs t _ radices c.args.payload _ read.above _ c.unpack-left.ensures.rest in
    let its = payload_header fs c.args.payload (sym read.telemetry_type ∙ c.if-telemetry_type-ne0.false) t (sym read.reserved ∙ c.if-reserved-ne0.false) (sym left ∙ c.if-left-ne0.false) in
    let codes = codes_are fs t _ radices c.args.payload _ read.above _ c.unpack-left.ensures.written in
    let readings = rw (c.as_slice-2.ensures.value, c.readings.ensures, c.in-Some.ensures.1, codes) at c.copy_from_slice.ensures.after in
    record { answer = rw (read.slot, read.kind) (sym its); readings_after = readings ∙ sym (after_extended _ _ _ _ its) }
