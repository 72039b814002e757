-- The cases of the definitions of the answers, each by what holds there, and what an answer that is no refusal says of its input.
use mathlib.Core.Path.{◌≡◌, refl, sym, ◌∙◌}
use Prim.Native.Nat.{ℕ, ◌%◌}
use native.Mathlib.Omega.{arith}
use mathlib.Core.Bool.{true, false, not}
use mathlib.Core.List.{List}
use lib.Dec.{eqb, leb}
use lib.IntN.{ℤ}
use lib.ListN.{length}
use borrow.Author.Tests.{not-false, eq-eqb, ne_eqb, eqb-true}
use Rattle.basics.proofs.Choice.{cond_passed, cond_both}
use Rattle.refusal.specs.declared.Refusal.{Refusal}
use Rattle.refusal.proofs.Laws.{refused_not_ok, same_number}
use Rattle.message.specs.Character.{capital_form}
use Rattle.message.specs.Answer.{right_lengths}
use Rattle.std.specs.Prelude.{Result, Ok, Err}
use Rattle.u4b.specs.Channel.{is_first_character, is_third_character}
use Rattle.u4b.specs.Answer.{payload_message, payload_read}
use Rattle.u4b.specs.declared.Payload.{Payload}
use Rattle.u4b.proofs.AnswerLaws.{read_capitals, readable}
use Rattle.telemetry.specs.Payload.{basic_bit}
use Rattle.telemetry.specs.Answer.{payload_telemetry, basic_telemetry}
use Rattle.telemetry.specs.declared.Reading.{Reading}
use Rattle.telemetry.proofs.AnswerLaws.{basic_numbers}
use Rattle.extended.specs.Fields.{fields_of, legal_table, codes_of, field_readings}
use Rattle.extended.specs.Number.{extended_payload, payload_number, reserved_in, telemetry_type_in, header_in, codes_in, left_over}
use Rattle.extended.specs.Answer.{extended_first, one_each, legal_slot_and_type, extended_message, extended_written, payload_extended, extended_if_payload, extended_read, readings_in, readings_after, readings_after_read}
use Rattle.extended.specs.declared.field.Field.{Field}
use Rattle.extended.specs.declared.Header.{Header}

-- ---- The cases of reading the two numbers

module _ (fs : List Field) (p : Payload) where
  pub payload_basic : (telemetry_type_in (payload_number p) ≡ 0 → ⊥) → payload_extended fs p ≡ Err Refusal.NotExtended
  unfolding payload_extended
  payload_basic e = rw (ne_eqb (telemetry_type_in (payload_number p)) 0 e)

  module _ (e : telemetry_type_in (payload_number p) ≡ 0) where
    pub payload_table : legal_table fs ≡ false → payload_extended fs p ≡ Err Refusal.BadFieldTable
    unfolding payload_extended
    payload_table t = rw (eq-eqb (telemetry_type_in (payload_number p)) 0 e, t)

    module _ (t : legal_table fs ≡ true) where
      pub payload_reserved : (reserved_in (payload_number p) ≡ 0 → ⊥) → payload_extended fs p ≡ Err Refusal.ReservedNotZero
      unfolding payload_extended
      payload_reserved r = rw (eq-eqb (telemetry_type_in (payload_number p)) 0 e, t, ne_eqb (reserved_in (payload_number p)) 0 r)

      module _ (r : reserved_in (payload_number p) ≡ 0) where
        pub payload_over : (left_over fs (payload_number p) ≡ 0 → ⊥) → payload_extended fs p ≡ Err Refusal.NumberLeftOver
        unfolding payload_extended
        payload_over l =
            rw (
              eq-eqb (telemetry_type_in (payload_number p)) 0 e,
              t,
              eq-eqb (reserved_in (payload_number p)) 0 r,
              ne_eqb (left_over fs (payload_number p)) 0 l,
            )

        pub payload_header : left_over fs (payload_number p) ≡ 0 → payload_extended fs p ≡ Ok (header_in p)
        unfolding payload_extended
        payload_header l =
            rw (
              eq-eqb (telemetry_type_in (payload_number p)) 0 e,
              t,
              eq-eqb (reserved_in (payload_number p)) 0 r,
              eq-eqb (left_over fs (payload_number p)) 0 l,
            )

-- What the lent readings hold after each answer.
pub after_refused : (answer : Result Header Refusal) (f : Refusal) (before readings : List ℤ) → answer ≡ Err f → readings_after answer before readings ≡ before
unfolding readings_after
after_refused answer f before readings e = rw e

pub after_extended : (answer : Result Header Refusal) (h : Header) (before readings : List ℤ) → answer ≡ Ok h → readings_after answer before readings ≡ readings
unfolding readings_after
after_extended answer h before readings e = rw e

-- ---- The cases of writing

module _ (h : Header) (fs : List Field) (readings : List ℤ) where
  pub message_first : is_first_character extended_first h.channel.first ≡ false
      → extended_message h fs readings ≡ Err (Refusal.OutOfRange 0)
  unfolding extended_message
  message_first e = rw e

  module _ (is_first : is_first_character extended_first h.channel.first ≡ true) where
    pub message_third : is_third_character h.channel.third ≡ false → extended_message h fs readings ≡ Err (Refusal.OutOfRange 1)
    unfolding extended_message
    message_third e = rw (is_first, e)

    module _ (is_third : is_third_character h.channel.third ≡ true) where
      pub message_table : legal_table fs ≡ false → extended_message h fs readings ≡ Err Refusal.BadFieldTable
      unfolding extended_message
      message_table e = rw (is_first, is_third, e)

      module _ (legal : legal_table fs ≡ true) where
        pub message_header : legal_slot_and_type h ≡ false → extended_message h fs readings ≡ Err Refusal.BadSlotOrType
        unfolding extended_message
        message_header e = rw (is_first, is_third, legal, e)

        pub message_payload : legal_slot_and_type h ≡ true
            → extended_message h fs readings ≡ payload_message extended_first (extended_payload h fs (codes_of fs readings))
        unfolding extended_message
        message_payload e = rw (is_first, is_third, legal, e)

  -- What is written has a legal table, slot and type, and its message is that of its numbers.
  pub record Writable (power : ℕ) : Type 0 where
    pub legal : legal_table fs ≡ true
    pub its_header : legal_slot_and_type h ≡ true
    pub its_message : payload_message extended_first (extended_payload h fs (codes_of fs readings)) ≡ Ok power

  pub writable : (power : ℕ) → extended_message h fs readings ≡ Ok power → Writable power
  unfolding extended_message
  writable power e =
      let firsts = cond_passed (not (is_first_character extended_first h.channel.first)) e (refused_not_ok _ power) in
      let thirds = cond_passed (not (is_third_character h.channel.third)) firsts.1 (refused_not_ok _ power) in
      let tables = cond_passed (not (legal_table fs)) thirds.1 (refused_not_ok _ power) in
      let headers = cond_passed (not (legal_slot_and_type h)) tables.1 (refused_not_ok _ power) in
      record { legal = not-false _ tables.0; its_header = not-false _ headers.0; its_message = headers.1 }

module _ (callsign locator : List ℕ) (h : Header) (numbers readings : List ℤ) where
  pub written_each : one_each (length numbers) (length readings) ≡ false
      → extended_written callsign locator h numbers readings ≡ Err Refusal.WrongLength
  unfolding extended_written
  written_each e = rw e

  module _ (each : one_each (length numbers) (length readings) ≡ true) where
    pub written_length : right_lengths (length callsign) (length locator) ≡ false
        → extended_written callsign locator h numbers readings ≡ Err Refusal.WrongLength
    unfolding extended_written
    written_length e = rw (each, e)

    pub written_message : right_lengths (length callsign) (length locator) ≡ true
        → extended_written callsign locator h numbers readings ≡ extended_message h (fields_of numbers) readings
    unfolding extended_written
    written_message e = rw (each, e)

  pub message_of_written : (power : ℕ) → extended_written callsign locator h numbers readings ≡ Ok power
      → (one_each (length numbers) (length readings) ≡ true) × (extended_message h (fields_of numbers) readings ≡ Ok power)
  unfolding extended_written
  message_of_written power e =
      let lengths = cond_passed (not (one_each (length numbers) (length readings))) e (refused_not_ok _ power) in
      (not-false _ lengths.0, (cond_passed (not (right_lengths (length callsign) (length locator))) lengths.1 (refused_not_ok _ power)).1)

-- ---- The cases of reading a message

module _ (callsign locator : List ℕ) (power : ℕ) (numbers : List ℤ) (lent : ℕ) where
  pub read_each : one_each (length numbers) lent ≡ false → extended_read callsign locator power numbers lent ≡ Err Refusal.WrongLength
  unfolding extended_read
  read_each e = rw e

  module _ (each : one_each (length numbers) lent ≡ true) where
    pub read_refused : (f : Refusal) → payload_read extended_first callsign locator power ≡ Err f
        → extended_read callsign locator power numbers lent ≡ Err f
    unfolding extended_read extended_if_payload
    read_refused f e = rw (each, e)

    pub read_payload : (p : Payload) → payload_read extended_first callsign locator power ≡ Ok p
        → extended_read callsign locator power numbers lent ≡ payload_extended (fields_of numbers) p
    unfolding extended_read extended_if_payload
    read_payload p e = rw (each, e)

  -- Small letters count as their capitals.
  pub extended_capitals : extended_read (capital_form callsign) (capital_form locator) power numbers lent ≡ extended_read callsign locator power numbers lent
  unfolding extended_read
  extended_capitals = rw (read_capitals extended_first callsign locator power)

-- The readings in a message are those in its two numbers.
pub readings_of_payload : (callsign locator : List ℕ) (power : ℕ) (numbers : List ℤ) (p : Payload)
    → payload_read extended_first callsign locator power ≡ Ok p
    → readings_in callsign locator power numbers ≡ field_readings (fields_of numbers) (codes_in (fields_of numbers) (payload_number p))
unfolding readings_in
readings_of_payload callsign locator power numbers p e = rw (← (readable extended_first callsign locator power p e).is_payload)

-- ---- What is read

-- The numbers hold codes, a slot and a type, and these are they.
pub record HoldsExtended (fs : List Field) (p : Payload) (h : Header) : Type 0 where
  pub telemetry_type : telemetry_type_in (payload_number p) ≡ 0
  pub legal : legal_table fs ≡ true
  pub reserved : reserved_in (payload_number p) ≡ 0
  pub left : left_over fs (payload_number p) ≡ 0
  pub is_header : h ≡ header_in p

pub holds_extended : (fs : List Field) (p : Payload) (h : Header) → payload_extended fs p ≡ Ok h → HoldsExtended fs p h
unfolding payload_extended
holds_extended fs p h e =
    let types = cond_passed (not (eqb (telemetry_type_in (payload_number p)) 0)) e (refused_not_ok _ h) in
    let tables = cond_passed (not (legal_table fs)) types.1 (refused_not_ok _ h) in
    let reserved = cond_passed (not (eqb (reserved_in (payload_number p)) 0)) tables.1 (refused_not_ok _ h) in
    let left = cond_passed (not (eqb (left_over fs (payload_number p)) 0)) reserved.1 (refused_not_ok _ h) in
    record {
      telemetry_type = eqb-true _ _ (not-false _ types.0);
      legal = not-false _ tables.0;
      reserved = eqb-true _ _ (not-false _ reserved.0);
      left = eqb-true _ _ (not-false _ left.0);
      is_header = cc;
    }

-- A message that is read has a payload that is extended telemetry's.
pub record ReadsExtended (callsign locator : List ℕ) (power : ℕ) (numbers : List ℤ) (lent : ℕ) (h : Header) : Type 0 where
  pub p : Payload
  pub each : one_each (length numbers) lent ≡ true
  pub payload : payload_read extended_first callsign locator power ≡ Ok p
  pub holds : HoldsExtended (fields_of numbers) p h

pub reads_extended : (callsign locator : List ℕ) (power : ℕ) (numbers : List ℤ) (lent : ℕ) (h : Header)
    → extended_read callsign locator power numbers lent ≡ Ok h → ReadsExtended callsign locator power numbers lent h
unfolding extended_read
reads_extended callsign locator power numbers lent h e =
    let lengths = cond_passed (not (one_each (length numbers) lent)) e (refused_not_ok _ h) in
    go (not-false _ lengths.0) (payload_read extended_first callsign locator power) refl
  where
    go : one_each (length numbers) lent ≡ true → (answer : Result Payload Refusal) → payload_read extended_first callsign locator power ≡ answer
        → ReadsExtended callsign locator power numbers lent h
    go each (Ok p) k =
        record { p = p; each = each; payload = k; holds = holds_extended (fields_of numbers) p h (sym (read_payload callsign locator power numbers lent each p k) ∙ e) }
    go each (Err f) k = absurd (refused_not_ok f h (sym (read_refused callsign locator power numbers lent each f k) ∙ e))

-- What the lent readings then hold doesn't depend on small letters.
pub after_capitals : (callsign locator : List ℕ) (power : ℕ) (numbers readings : List ℤ)
    → readings_after_read (capital_form callsign) (capital_form locator) power numbers readings ≡ readings_after_read callsign locator power numbers readings
unfolding readings_after_read readings_after
after_capitals callsign locator power numbers readings =
    rw (extended_capitals callsign locator power numbers (length readings))
    (go (extended_read callsign locator power numbers (length readings)) refl)
  where
    go : (answer : Result Header Refusal) → extended_read callsign locator power numbers (length readings) ≡ answer
        → readings_after answer readings (readings_in (capital_form callsign) (capital_form locator) power numbers)
        ≡ readings_after answer readings (readings_in callsign locator power numbers)
    go (Ok h) e =
        let r = reads_extended callsign locator power numbers (length readings) h e in
        readings_of_payload (capital_form callsign) (capital_form locator) power numbers r.p (read_capitals extended_first callsign locator power ∙ r.payload)
        ∙ sym (readings_of_payload callsign locator power numbers r.p r.payload)
    go (Err f) e = refl

-- ---- Basic and extended telemetry

abbrev NotBasic : Result Header Refusal → Type 0
NotBasic answer = answer ≡ Err Refusal.NotExtended → ⊥

-- Extended telemetry is never refused as basic.
pub extended_not_basic : (fs : List Field) (p : Payload) → telemetry_type_in (payload_number p) ≡ 0
    → payload_extended fs p ≡ Err Refusal.NotExtended → ⊥
unfolding payload_extended
extended_not_basic fs p z =
    rw (eq-eqb (telemetry_type_in (payload_number p)) 0 z)
    (cond_both NotBasic (not (legal_table fs)) (λ e. let n = same_number _ _ e in absurd (omega arith))
    (cond_both NotBasic (not (eqb (reserved_in (payload_number p)) 0)) (λ e. let n = same_number _ _ e in absurd (omega arith))
    (cond_both NotBasic (not (eqb (left_over fs (payload_number p)) 0)) (λ e. let n = same_number _ _ e in absurd (omega arith))
    (λ e. refused_not_ok _ _ (sym e)))))

abbrev NotExtended : Result Reading Refusal → Type 0
NotExtended answer = answer ≡ Err Refusal.ExtendedTelemetry → ⊥

-- Basic telemetry is never refused as extended.
pub basic_not_extended : (p : Payload) → p.lower % 2 ≡ basic_bit → basic_telemetry p ≡ Err Refusal.ExtendedTelemetry → ⊥
unfolding payload_telemetry
basic_not_extended p z =
    rw (basic_numbers p z)
    (cond_both NotExtended (leb 615_168 p.upper) (λ e. let n = same_number _ _ e in absurd (omega arith))
    (cond_both NotExtended (leb 604_800 p.lower) (λ e. let n = same_number _ _ e in absurd (omega arith))
    (λ e. refused_not_ok _ _ (sym e))))
