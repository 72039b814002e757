-- `extended::write` meets its contract: a refusal leaves both buffers alone; else the answer and the message are those of writing the
-- numbers, and the rest follows from the definitions' laws.
-- Assumes nothing.
use Rattle.std.proofs.Common.{sym, ◌∙◌}
use Rattle.message.specs.Answer.{content_after}
use Rattle.u4b.specs.Answer.{callsign_after_payload, locator_after_payload}
use Rattle.u4b.proofs.AnswerLaws as U4b
use Rattle.extended.specs.Fields.{fields_of, codes_of}
use Rattle.extended.specs.Number.{extended_payload}
use Rattle.extended.specs.Answer.{extended_first, extended_callsign, extended_locator}
use Rattle.extended.proofs.AnswerLaws.{written_each, written_length, written_message, message_first, message_third, message_table, message_header, message_payload}
use Rattle.extended.proofs.TableLaws.{not_legal_table}
use Rattle.extended.proofs.RoundTripLaws.{readings_each, write_promised}
use Rattle.extended.proofs.write.Goals as goal

pub returns-then-not-one_each : goal.returns-then-not-one_each
unfolding content_after
returns-then-not-one_each c =
    let a = c.args in
    write_promised a.callsign.now a.locator.now a.header a.fields.now a.readings.now _
    (written_each a.callsign.now a.locator.now a.header a.fields.now a.readings.now (sym c.one_each.ensures ∙ c.if-not-one_each.true))

pub returns-then-not-right_lengths : goal.returns-then-not-right_lengths
unfolding content_after
returns-then-not-right_lengths c =
    let a = c.args in
    write_promised a.callsign.now a.locator.now a.header a.fields.now a.readings.now _
    (written_length a.callsign.now a.locator.now a.header a.fields.now a.readings.now (sym c.one_each.ensures ∙ c.if-not-one_each.false) (sym c.right_lengths.ensures ∙ c.if-not-right_lengths.true))

pub returns-then-not-is_first_character : goal.returns-then-not-is_first_character
unfolding content_after
returns-then-not-is_first_character c =
    let a = c.args in
    write_promised a.callsign.now a.locator.now a.header a.fields.now a.readings.now _
    (written_message a.callsign.now a.locator.now a.header a.fields.now a.readings.now (sym c.one_each.ensures ∙ c.if-not-one_each.false) (sym c.right_lengths.ensures ∙ c.if-not-right_lengths.false)
    ∙ message_first a.header (fields_of a.fields.now) a.readings.now (sym c.is_first_character.ensures ∙ c.if-not-is_first_character.true))

pub returns-then-not-is_third_character : goal.returns-then-not-is_third_character
unfolding content_after
returns-then-not-is_third_character c =
    let a = c.args in
    write_promised a.callsign.now a.locator.now a.header a.fields.now a.readings.now _
    (written_message a.callsign.now a.locator.now a.header a.fields.now a.readings.now (sym c.one_each.ensures ∙ c.if-not-one_each.false) (sym c.right_lengths.ensures ∙ c.if-not-right_lengths.false)
    ∙ message_third a.header (fields_of a.fields.now) a.readings.now (sym c.is_first_character.ensures ∙ c.if-not-is_first_character.false) (sym c.is_third_character.ensures ∙ c.if-not-is_third_character.true))

pub returns-in_default : goal.returns-in_default
unfolding content_after
returns-in_default c =
    let a = c.args in
    write_promised a.callsign.now a.locator.now a.header a.fields.now a.readings.now _
    (written_message a.callsign.now a.locator.now a.header a.fields.now a.readings.now (sym c.one_each.ensures ∙ c.if-not-one_each.false) (sym c.right_lengths.ensures ∙ c.if-not-right_lengths.false)
    ∙ message_table a.header (fields_of a.fields.now) a.readings.now (sym c.is_first_character.ensures ∙ c.if-not-is_first_character.false) (sym c.is_third_character.ensures ∙ c.if-not-is_third_character.false) (not_legal_table (fields_of a.fields.now) c.in_default.ensures))

pub returns-then-not-legal_slot_and_type : goal.returns-then-not-legal_slot_and_type
unfolding content_after
returns-then-not-legal_slot_and_type c =
    let a = c.args in
    write_promised a.callsign.now a.locator.now a.header a.fields.now a.readings.now _
    (written_message a.callsign.now a.locator.now a.header a.fields.now a.readings.now (sym c.one_each.ensures ∙ c.if-not-one_each.false) (sym c.right_lengths.ensures ∙ c.if-not-right_lengths.false)
    ∙ message_header a.header (fields_of a.fields.now) a.readings.now (sym c.is_first_character.ensures ∙ c.if-not-is_first_character.false) (sym c.is_third_character.ensures ∙ c.if-not-is_third_character.false) c.in-Some.ensures.0 (sym c.legal_slot_and_type.ensures ∙ c.if-not-legal_slot_and_type.true))

pub payload_from-payload-requires : goal.payload_from-payload-requires
payload_from-payload-requires c = record {
  readings_len = rw c.in-Some.ensures.1 (readings_each c.args.fields.now _ (sym c.one_each.ensures ∙ c.if-not-one_each.false));
  header_value = sym c.legal_slot_and_type.ensures ∙ c.if-not-legal_slot_and_type.false;
}

pub returns : goal.returns
unfolding callsign_after_payload locator_after_payload extended_callsign extended_locator
returns c =
    let a = c.args in
    let written = rw (c.payload_from-payload.ensures, c.in-Some.ensures.1) at c.write.ensures in
    let as_payload = U4b.written_message extended_first a.callsign.now a.locator.now (extended_payload a.header (fields_of a.fields.now) (codes_of (fields_of a.fields.now) a.readings.now))
    (sym c.right_lengths.ensures ∙ c.if-not-right_lengths.false) in
    let answer = written_message a.callsign.now a.locator.now a.header a.fields.now a.readings.now (sym c.one_each.ensures ∙ c.if-not-one_each.false) (sym c.right_lengths.ensures ∙ c.if-not-right_lengths.false)
    ∙ message_payload a.header (fields_of a.fields.now) a.readings.now (sym c.is_first_character.ensures ∙ c.if-not-is_first_character.false) (sym c.is_third_character.ensures ∙ c.if-not-is_third_character.false) c.in-Some.ensures.0 (sym c.legal_slot_and_type.ensures ∙ c.if-not-legal_slot_and_type.false)
    ∙ sym as_payload in
    rw (written.answer, written.callsign_after, written.locator_after)
    (write_promised a.callsign.now a.locator.now a.header a.fields.now a.readings.now _ answer)
