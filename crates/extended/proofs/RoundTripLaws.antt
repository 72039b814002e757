-- The round trips between readings and their message, how far what reads back is from what was sent, that the reader refuses exactly the
-- messages whose capital form the writer never makes, that two lists of codes never share a message, and that every message of telemetry is
-- of exactly one kind.
use mathlib.Core.Path.{◌≡◌, refl, sym, ap, ◌∙◌}
use mathlib.Core.Logic.{inl, inr}
use Prim.Native.Nat.{ℕ, ◌*◌, ◌%◌, ◌<◌}
use native.Mathlib.Omega.{arith}
use mathlib.Core.Bool.{true}
use mathlib.Core.List.{List, [], ◌∷◌, zip_with}
use lib.IntN.{ℤ}
use lib.ListN.{length}
use borrow.Author.Tests.{le-leb, eqb-true}
use Rattle.basics.proofs.Choice.{both_true, equal_or_not}
use Rattle.basics.proofs.ListLaws.{length_zip_with}
use Rattle.radix.specs.Numeral.{Digits, count}
use Rattle.radix.proofs.Laws.{digits_length}
use Rattle.message.specs.Character.{capital_form}
use Rattle.message.specs.Answer.{content_after, message_numbers}
use Rattle.message.specs.RoundTrip.{WrittenInCapitals}
use Rattle.std.specs.Prelude.{Result, Ok, Err}
use Rattle.refusal.specs.declared.Refusal.{Refusal}
use Rattle.refusal.specs.Refusals.{Refused}
use Rattle.u4b.specs.Characters.{upper_radices, lower_radices}
use Rattle.u4b.specs.Answer.{payload_read}
use Rattle.u4b.specs.RoundTrip.{written_part, PayloadWritesAs}
use Rattle.u4b.specs.declared.Payload.{Payload}
use Rattle.u4b.proofs.CallsignLaws.{upper_count}
use Rattle.u4b.proofs.LocatorLaws.{lower_count}
use Rattle.u4b.proofs.AnswerLaws as U4bAnswers
use Rattle.u4b.proofs.RoundTripLaws as U4b
use Rattle.telemetry.specs.Payload.{basic_bit}
use Rattle.telemetry.proofs.AnswerLaws as Telemetry
use Rattle.extended.specs.Fields.{fields_of, field_reading, legal_fields, legal_table, code_of, counts, count_of, codes_of, field_readings}
use Rattle.extended.specs.Number.{extended_payload, payload_number, slot_in, kind_in, telemetry_type_in, header_in, codes_in}
use Rattle.extended.specs.Answer.{extended_first, one_each, legal_slot_and_type, extended_message, extended_callsign, extended_locator, extended_written, callsign_after_extended, locator_after_extended, payload_extended, extended_read, readings_in, readings_after, readings_after_read, extended_numbers}
use Rattle.extended.specs.RoundTrip.{rounded, rounded_readings, ReadsAs, ExtendedReadsBack, EachNearest, ExtendedNearest, CodesWriteAs, CodesNeverShared, ExtendedWritesAs, ExtendedWritesBack, NeverExtended, ExtendedRefusedExactly, OneKind}
use Rattle.extended.specs.declared.field.Field.{Field}
use Rattle.extended.specs.declared.Header.{Header}
use Rattle.extended.proofs.FieldLaws.{legal, code_of_reading, rounded_within}
use Rattle.extended.proofs.TableLaws.{legal_of_table, fields_length, counts_length, codes_below}
use Rattle.extended.proofs.NumberLaws.{number_small, packed_number, packed_upper, packed_lower, slot_below, kind_below, codes_in_range, type_back, reserved_back, codes_back, left_back, header_back, payload_again, type_is_bit}
use Rattle.extended.proofs.AnswerLaws.{payload_basic, payload_header, writable, message_payload, message_of_written, read_payload, extended_capitals, readings_of_payload, HoldsExtended, reads_extended, after_capitals, extended_not_basic, basic_not_extended}

-- ---- One reading a field

pub readings_each : (numbers : List ℤ) (readings : ℕ) → one_each (length numbers) readings ≡ true → readings ≡ length (fields_of numbers)
unfolding one_each
readings_each numbers readings e = omega (arith, eqb-true (length numbers) (3 * readings) e, fields_length numbers)

-- ---- The readings of a table's codes

readings_of_codes : (fs : List Field) (readings : List ℤ) → field_readings fs (codes_of fs readings) ≡ rounded_readings fs readings
unfolding zip_with rounded
readings_of_codes [] readings = refl
readings_of_codes (f ∷ fs) [] = refl
readings_of_codes (f ∷ fs) (x ∷ readings) = ap (λ (l : List ℤ). field_reading f (code_of f x) ∷ l) (readings_of_codes fs readings)

codes_of_readings : (fs : List Field) (codes : List ℕ) → legal_fields fs ≡ true → Digits (counts fs) codes → codes_of fs (field_readings fs codes) ≡ codes
unfolding Digits legal_fields count_of zip_with
codes_of_readings [] [] e h = refl
codes_of_readings [] (k ∷ codes) e h = absurd h
codes_of_readings (f ∷ fs) [] e h = absurd h
codes_of_readings (f ∷ fs) (k ∷ codes) e h =
    let tests = both_true _ _ e in
    rw (code_of_reading f (legal f tests.0) k h.0, codes_of_readings fs codes tests.1 h.1)

each_nearest : (fs : List Field) (readings : List ℤ) → legal_fields fs ≡ true → length readings ≡ length fs
    → EachNearest fs readings (rounded_readings fs readings)
unfolding EachNearest legal_fields zip_with
each_nearest [] [] e same = tt
each_nearest [] (x ∷ readings) e same = absurd (omega arith)
each_nearest (f ∷ fs) [] e same = absurd (omega arith)
each_nearest (f ∷ fs) (x ∷ readings) e same =
    let tests = both_true _ _ e in
    (rounded_within f (legal f tests.0) x, each_nearest fs readings tests.1 (omega arith))

rounded_length : (fs : List Field) (readings : List ℤ) → length readings ≡ length fs → length (rounded_readings fs readings) ≡ length fs
rounded_length fs readings same = length_zip_with rounded fs readings same

same_payload : (p q : Payload) → ◌≡◌ {A = Result Payload Refusal} (Ok p) (Ok q) → p ≡ q
same_payload p q e = cc

-- ---- What codes write reads back

module _ (h : Header) (fs : List Field) (codes : List ℕ) (t : legal_table fs ≡ true) (its_header : legal_slot_and_type h ≡ true) (its_codes : Digits (counts fs) codes) where
  packed_extended : payload_extended fs (extended_payload h fs codes) ≡ Ok h
  packed_extended =
      let p = extended_payload h fs codes in
      let number = packed_number h fs codes in
      payload_header fs p (rw number (type_back h fs codes its_header its_codes)) t (rw number (reserved_back h fs codes its_header its_codes))
      (rw number (left_back h fs codes its_header its_codes (legal_of_table fs t).each))
      ∙ ap Ok (header_back h fs codes its_header its_codes)

  codes_packed : codes_in fs (payload_number (extended_payload h fs codes)) ≡ codes
  codes_packed = rw (packed_number h fs codes) (codes_back h fs codes its_header its_codes)

  -- The message of the codes is read as their payload.
  packed_read : (callsign locator : List ℕ) (power : ℕ) → PayloadWritesAs extended_first (extended_payload h fs codes) callsign locator power
      → payload_read extended_first callsign locator power ≡ Ok (extended_payload h fs codes)
  packed_read callsign locator power w =
      let p = extended_payload h fs codes in
      let small = number_small h fs codes its_header its_codes (legal_of_table fs t).product in
      let back = U4b.read_write extended_first p power w.its_power in
      (rw (w.its_callsign, w.its_locator) at back)
      ∙ ap Ok (U4b.whole p (packed_upper h fs codes small) (packed_lower h fs codes))

-- ---- What was written reads back

module _ (h : Header) (numbers readings : List ℤ) (power : ℕ) (each : one_each (length numbers) (length readings) ≡ true)
    (e : extended_message h (fields_of numbers) readings ≡ Ok power) where
  same_length : length readings ≡ length (fields_of numbers)
  same_length = readings_each numbers (length readings) each

  its_codes : Digits (counts (fields_of numbers)) (codes_of (fields_of numbers) readings)
  its_codes =
      codes_below (fields_of numbers) readings (legal_of_table (fields_of numbers) (writable h (fields_of numbers) readings power e).legal).each same_length

  written_payload : payload_read extended_first (extended_callsign h (fields_of numbers) readings) (extended_locator h (fields_of numbers) readings) power
      ≡ Ok (extended_payload h (fields_of numbers) (codes_of (fields_of numbers) readings))
  unfolding extended_callsign extended_locator
  written_payload =
      let w = writable h (fields_of numbers) readings power e in
      packed_read h (fields_of numbers) (codes_of (fields_of numbers) readings) w.legal w.its_header its_codes _ _ power
      (record { its_power = w.its_message; its_callsign = refl; its_locator = refl })

  written_readings : readings_in (extended_callsign h (fields_of numbers) readings) (extended_locator h (fields_of numbers) readings) power numbers
      ≡ rounded_readings (fields_of numbers) readings
  written_readings =
      let w = writable h (fields_of numbers) readings power e in
      let fs = fields_of numbers in
      readings_of_payload _ _ power numbers _ written_payload
      ∙ ap (field_readings fs) (codes_packed h fs (codes_of fs readings) w.legal w.its_header its_codes)
      ∙ readings_of_codes fs readings

  read_write : ReadsAs (extended_callsign h (fields_of numbers) readings) (extended_locator h (fields_of numbers) readings) power numbers h
      (rounded_readings (fields_of numbers) readings)
  read_write =
      let w = writable h (fields_of numbers) readings power e in
      let fs = fields_of numbers in
      let same = rounded_length fs readings same_length ∙ sym same_length in
      record {
        its_header = rw same
            (read_payload _ _ power numbers (length readings) each _ written_payload
            ∙ packed_extended h fs (codes_of fs readings) w.legal w.its_header its_codes);
        its_readings = written_readings;
      }

  written_nearest : EachNearest (fields_of numbers) readings
      (readings_in (extended_callsign h (fields_of numbers) readings) (extended_locator h (fields_of numbers) readings) power numbers)
  written_nearest =
      let w = writable h (fields_of numbers) readings power e in
      rw written_readings (each_nearest (fields_of numbers) readings (legal_of_table (fields_of numbers) w.legal).each same_length)

  -- Whatever codes write the message, they are those of the readings.
  never_shared : (other : Header) (codes : List ℕ)
      → CodesWriteAs other (fields_of numbers) codes (extended_callsign h (fields_of numbers) readings) (extended_locator h (fields_of numbers) readings) power
      → (other ≡ h) × (codes ≡ codes_of (fields_of numbers) readings)
  never_shared other codes w =
      let own = writable h (fields_of numbers) readings power e in
      let fs = fields_of numbers in
      let one : Ok (extended_payload other fs codes) ≡ Ok (extended_payload h fs (codes_of fs readings)) =
      sym (packed_read other fs codes own.legal w.its_header w.its_codes _ _ power w.its_message) ∙ written_payload in
      let same = same_payload _ _ one in (
        sym (header_back other fs codes w.its_header w.its_codes) ∙ ap header_in same ∙ header_back h fs (codes_of fs readings) own.its_header its_codes,
        sym (codes_packed other fs codes own.legal w.its_header w.its_codes)
            ∙ ap (λ (p : Payload). codes_in fs (payload_number p)) same
            ∙ codes_packed h fs (codes_of fs readings) own.legal own.its_header its_codes,
      )

  -- What is written is in capitals.
  in_capitals_written : (capital_form (extended_callsign h (fields_of numbers) readings) ≡ extended_callsign h (fields_of numbers) readings)
      × (capital_form (extended_locator h (fields_of numbers) readings) ≡ extended_locator h (fields_of numbers) readings)
  unfolding extended_callsign extended_locator
  in_capitals_written =
      U4b.written_in_capitals extended_first (extended_payload h (fields_of numbers) (codes_of (fields_of numbers) readings)) power
      (writable h (fields_of numbers) readings power e).its_message

-- ---- What was read writes the capital form back

-- A payload that is read is below the ends of its numbers.
written_small : (p : Payload) → written_part p ≡ p → (p.upper < 632_736) × (p.lower < 615_600)
unfolding written_part
written_small p e =
    let upper : p.upper % count upper_radices ≡ p.upper = ap (λ (q : Payload). q.upper) e in
    let lower : p.lower % count lower_radices ≡ p.lower = ap (λ (q : Payload). q.lower) e in
    let upper_is : p.upper % 632_736 ≡ p.upper = rw upper_count at upper in
    let lower_is : p.lower % 615_600 ≡ p.lower = rw lower_count at lower in
    (omega arith, omega arith)

pub payload_small : (callsign locator : List ℕ) (power : ℕ) (p : Payload) → payload_read extended_first callsign locator power ≡ Ok p
    → (p.upper < 632_736) × (p.lower < 615_600)
payload_small callsign locator power p e =
    let w = U4b.write_read extended_first callsign locator power p e in
    let back = U4b.read_write extended_first p power w.its_power in
    let again : payload_read extended_first (capital_form callsign) (capital_form locator) power ≡ Ok (written_part p) =
    rw (w.its_callsign, w.its_locator) at back in
    written_small p (same_payload _ _ (sym again ∙ U4bAnswers.read_capitals extended_first callsign locator power ∙ e))

header_legal : (p : Payload) → legal_slot_and_type (header_in p) ≡ true
unfolding legal_slot_and_type header_in
header_legal p =
    let slot = slot_below (payload_number p) in
    let kind = kind_below (payload_number p) in
    rw (le-leb (slot_in (payload_number p)) 4 (omega arith), le-leb (kind_in (payload_number p)) 15 (omega arith))

first_of_header : (p : Payload) → (header_in p).channel ≡ p.channel
unfolding header_in
first_of_header p = refl

readings_in_length : (callsign locator : List ℕ) (power : ℕ) (numbers : List ℤ) (p : Payload) → legal_table (fields_of numbers) ≡ true
    → payload_read extended_first callsign locator power ≡ Ok p → length (readings_in callsign locator power numbers) ≡ length (fields_of numbers)
readings_in_length callsign locator power numbers p t e =
    let fs = fields_of numbers in
    let codes = codes_in fs (payload_number p) in
    rw (readings_of_payload callsign locator power numbers p e)
    (length_zip_with field_reading fs codes
    (digits_length (counts fs) codes (codes_in_range fs (payload_number p) (legal_of_table fs t).each) ∙ counts_length fs))

payload_writes : (callsign locator : List ℕ) (power : ℕ) (numbers : List ℤ) (lent : ℕ) (h : Header) (p : Payload) → one_each (length numbers) lent ≡ true
    → payload_read extended_first callsign locator power ≡ Ok p → HoldsExtended (fields_of numbers) p h
    → ExtendedWritesAs h numbers (readings_in callsign locator power numbers) (capital_form callsign) (capital_form locator) power
unfolding extended_callsign extended_locator
payload_writes callsign locator power numbers lent h p one payload holds =
    let fs = fields_of numbers in
    let w = U4b.write_read extended_first callsign locator power p payload in
    let its = U4bAnswers.writable extended_first p power w.its_power in
    let codes = codes_in fs (payload_number p) in
    let each = (legal_of_table fs holds.legal).each in
    let readings : readings_in callsign locator power numbers ≡ field_readings fs codes = readings_of_payload callsign locator power numbers p payload in
    let own_codes : codes_of fs (readings_in callsign locator power numbers) ≡ codes =
    rw readings (codes_of_readings fs codes each (codes_in_range fs (payload_number p) each)) in
    let again : extended_payload h fs (codes_of fs (readings_in callsign locator power numbers)) ≡ p =
    rw (own_codes, holds.is_header) (payload_again fs p each holds.telemetry_type holds.reserved holds.left (payload_small callsign locator power p payload).1) in
    let channel : h.channel ≡ p.channel = rw holds.is_header (first_of_header p) in
    record {
      its_lengths = rw (readings_in_length callsign locator power numbers p holds.legal payload, ← (readings_each numbers lent one)) one;
      its_power =
          message_payload h fs (readings_in callsign locator power numbers) (rw channel its.is_first) (rw channel its.is_third) holds.legal
          (rw holds.is_header (header_legal p))
          ∙ rw again w.its_power;
      its_callsign = rw again w.its_callsign;
      its_locator = rw again w.its_locator;
    }

pub write_read : (callsign locator : List ℕ) (power : ℕ) (numbers : List ℤ) (lent : ℕ) (h : Header)
    → extended_read callsign locator power numbers lent ≡ Ok h
    → ExtendedWritesAs h numbers (readings_in callsign locator power numbers) (capital_form callsign) (capital_form locator) power
write_read callsign locator power numbers lent h e =
    let r = reads_extended callsign locator power numbers lent h e in
    payload_writes callsign locator power numbers lent h r.p r.each r.payload r.holds

-- ---- The reader refuses exactly the messages whose capital form the writer never makes

pub refuses_exactly : (callsign locator : List ℕ) (power : ℕ) (numbers : List ℤ) (lent : ℕ)
    → ExtendedRefusedExactly (extended_read callsign locator power numbers lent) numbers lent callsign locator power
refuses_exactly callsign locator power numbers lent =
    (λ refused h readings same w. never refused h readings same w, λ never_written. exact (extended_read callsign locator power numbers lent) refl never_written)
  where
    never : Refused (extended_read callsign locator power numbers lent)
        → NeverExtended numbers lent (capital_form callsign) (capital_form locator) power
    never refused h readings same w =
        let back = read_write h numbers readings power w.its_lengths w.its_power in
        let its_length = rounded_length (fields_of numbers) readings (readings_each numbers (length readings) w.its_lengths)
        ∙ sym (readings_each numbers (length readings) w.its_lengths) ∙ same in
        let header : extended_read (capital_form callsign) (capital_form locator) power numbers lent ≡ Ok h =
        rw (w.its_callsign, w.its_locator, its_length) at back.its_header in
        rw (sym (extended_capitals callsign locator power numbers lent) ∙ header) at refused

    exact : (answer : Result Header Refusal) → extended_read callsign locator power numbers lent ≡ answer
        → NeverExtended numbers lent (capital_form callsign) (capital_form locator) power → Refused answer
    exact (Ok h) e never_written =
        let r = reads_extended callsign locator power numbers lent h e in
        never_written h (readings_in callsign locator power numbers)
        (readings_in_length callsign locator power numbers r.p r.holds.legal r.payload ∙ sym (readings_each numbers lent r.each))
        (write_read callsign locator power numbers lent h e)
    exact (Err f) e never_written = tt

-- ---- Basic and extended telemetry

bit_is_zero : (p : Payload) → (p.lower % 2 ≡ basic_bit → ⊥) → telemetry_type_in (payload_number p) ≡ 0
bit_is_zero p other = omega (arith, type_is_bit p)

pub one_kind : (callsign locator : List ℕ) (power : ℕ) (numbers : List ℤ) (lent : ℕ)
    → OneKind (extended_read callsign locator power numbers lent) numbers lent callsign locator power
one_kind callsign locator power numbers lent each p e =
    let basic = Telemetry.read_payload callsign locator power p e in
    let extended = read_payload callsign locator power numbers lent each p e in
    let bit = type_is_bit p in
    equal_or_not (p.lower % 2) basic_bit
    (λ one. inr (
      (λ k. basic_not_extended p one (sym basic ∙ k)),
      extended ∙ payload_basic (fields_of numbers) p (λ z. absurd (omega arith)),
    ))
    (λ other. inl (
      basic ∙ Telemetry.basic_extended p other,
      (λ k. extended_not_basic (fields_of numbers) p (bit_is_zero p other) (sym extended ∙ k)),
    ))

-- ---- What the functions promise, from their answers and what the lent buffers then hold

-- The clauses of `write`, by their names there.
abbrev pub WritePromised : (callsign locator : List ℕ) (h : Header) (table readings : List ℤ) (said : Result ℕ Refusal) (its_callsign its_locator : List ℕ) → Type 0
WritePromised callsign locator h table readings said its_callsign its_locator = record {
  answer : said ≡ extended_written callsign locator h table readings;
  numbers : message_numbers said ≡ message_numbers (extended_written callsign locator h table readings);
  callsign_after : its_callsign ≡ callsign_after_extended callsign locator h table readings;
  locator_after : its_locator ≡ locator_after_extended callsign locator h table readings;
  reads_back : ExtendedReadsBack said h table readings its_callsign its_locator;
  nearest : ExtendedNearest said table readings its_callsign its_locator;
  never_shared : CodesNeverShared said h table readings its_callsign its_locator;
  in_capitals : WrittenInCapitals said its_callsign its_locator;
}

module _ (callsign locator : List ℕ) (h : Header) (numbers readings : List ℤ) where
  abbrev after_callsign : Result ℕ Refusal → List ℕ
  after_callsign answer = content_after answer callsign (extended_callsign h (fields_of numbers) readings)

  abbrev after_locator : Result ℕ Refusal → List ℕ
  after_locator answer = content_after answer locator (extended_locator h (fields_of numbers) readings)

  reads_back : (answer : Result ℕ Refusal) → extended_written callsign locator h numbers readings ≡ answer
      → ExtendedReadsBack answer h numbers readings (after_callsign answer) (after_locator answer)
  unfolding content_after
  reads_back (Ok power) e =
      let w = message_of_written callsign locator h numbers readings power e in
      read_write h numbers readings power w.0 w.1
  reads_back (Err f) e = tt

  nearest : (answer : Result ℕ Refusal) → extended_written callsign locator h numbers readings ≡ answer
      → ExtendedNearest answer numbers readings (after_callsign answer) (after_locator answer)
  unfolding content_after
  nearest (Ok power) e =
      let w = message_of_written callsign locator h numbers readings power e in
      written_nearest h numbers readings power w.0 w.1
  nearest (Err f) e = tt

  own_codes : (answer : Result ℕ Refusal) → extended_written callsign locator h numbers readings ≡ answer
      → CodesNeverShared answer h numbers readings (after_callsign answer) (after_locator answer)
  unfolding content_after
  own_codes (Ok power) e =
      let w = message_of_written callsign locator h numbers readings power e in
      never_shared h numbers readings power w.0 w.1
  own_codes (Err f) e = tt

  in_capitals : (answer : Result ℕ Refusal) → extended_written callsign locator h numbers readings ≡ answer
      → WrittenInCapitals answer (after_callsign answer) (after_locator answer)
  unfolding content_after
  in_capitals (Ok power) e =
      let w = message_of_written callsign locator h numbers readings power e in
      in_capitals_written h numbers readings power w.0 w.1
  in_capitals (Err f) e = tt

  pub write_promised : (answer : Result ℕ Refusal) → extended_written callsign locator h numbers readings ≡ answer
      → WritePromised callsign locator h numbers readings answer (after_callsign answer) (after_locator answer)
  unfolding callsign_after_extended locator_after_extended
  write_promised answer e = record {
    answer = sym e;
    numbers = rw e;
    callsign_after = rw e;
    locator_after = rw e;
    reads_back = reads_back answer e;
    nearest = nearest answer e;
    never_shared = own_codes answer e;
    in_capitals = in_capitals answer e;
  }

-- The clauses of `read`.
abbrev pub ReadPromised : (callsign locator : List ℕ) (power : ℕ) (table readings : List ℤ) (said : Result Header Refusal) (after : List ℤ) → Type 0
ReadPromised callsign locator power table readings said after = record {
  answer : said ≡ extended_read callsign locator power table (length readings);
  numbers : extended_numbers said ≡ extended_numbers (extended_read callsign locator power table (length readings));
  readings_after : after ≡ readings_after_read callsign locator power table readings;
  as_capitals : said ≡ extended_read (capital_form callsign) (capital_form locator) power table (length readings);
  readings_as_capitals : after ≡ readings_after_read (capital_form callsign) (capital_form locator) power table readings;
  writes_back : ExtendedWritesBack said table after callsign locator power;
  refuses_exactly : ExtendedRefusedExactly said table (length readings) callsign locator power;
  one_kind : OneKind said table (length readings) callsign locator power;
}

module _ (callsign locator : List ℕ) (power : ℕ) (numbers readings : List ℤ) where
  writes_back : (answer : Result Header Refusal) → extended_read callsign locator power numbers (length readings) ≡ answer
      → ExtendedWritesBack answer numbers (readings_after answer readings (readings_in callsign locator power numbers)) callsign locator power
  unfolding readings_after
  writes_back (Ok h) e = write_read callsign locator power numbers (length readings) h e
  writes_back (Err f) e = tt

  after_is : (answer : Result Header Refusal) → extended_read callsign locator power numbers (length readings) ≡ answer
      → readings_after answer readings (readings_in callsign locator power numbers) ≡ readings_after_read callsign locator power numbers readings
  unfolding readings_after_read
  after_is answer e = rw e

  pub read_promised : (answer : Result Header Refusal) → extended_read callsign locator power numbers (length readings) ≡ answer
      → ReadPromised callsign locator power numbers readings answer (readings_after answer readings (readings_in callsign locator power numbers))
  read_promised answer e =
      let after = after_is answer e in
      record {
        answer = sym e;
        numbers = rw e;
        readings_after = after;
        as_capitals = sym (extended_capitals callsign locator power numbers (length readings) ∙ e);
        readings_as_capitals = after ∙ sym (after_capitals callsign locator power numbers readings);
        writes_back = writes_back answer e;
        refuses_exactly = rw e at (refuses_exactly callsign locator power numbers (length readings));
        one_kind = rw e at (one_kind callsign locator power numbers (length readings));
      }
