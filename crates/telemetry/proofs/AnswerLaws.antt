-- The cases of the definitions of the answers, each by what holds there, and what an answer that is no refusal says of its input.
use mathlib.Core.Path.{◌≡◌, refl, sym, ap, ◌∙◌}
use Prim.Native.Nat.{ℕ, ◌%◌, ◌≤◌, ◌<◌}
use mathlib.Core.Bool.{true, false, not}
use mathlib.Core.List.{List}
use lib.Dec.{eqb, leb, ltb}
use lib.ListN.{length}
use borrow.Author.Tests.{not-false, le-leb, lt-leb, leb-false, le-ltb, ltb-false, eq-eqb, ne_eqb, eqb-true}
use Rattle.basics.proofs.Choice.{cond_passed, cond_held}
use Rattle.refusal.specs.declared.Refusal.{Refusal}
use Rattle.refusal.proofs.Laws.{refused_not_ok, ok_not_refused}
use Rattle.message.specs.Character.{capital_form}
use Rattle.message.specs.Answer.{right_lengths, word_unpacked, content_after, callsign_after_unpack, locator_after_unpack}
use Rattle.std.specs.Prelude.{Result, Ok, Err}
use Rattle.message.proofs.AnswerLaws.{unpacked_read}
use Rattle.u4b.specs.Answer.{payload_message, payload_read}
use Rattle.u4b.specs.declared.Payload.{Payload}
use Rattle.u4b.proofs.AnswerLaws.{read_capitals}
use Rattle.telemetry.specs.Ranges.{first_out_of_range, range_checked}
use Rattle.telemetry.specs.Payload.{basic_bit, payload_from, reading_of}
use Rattle.telemetry.specs.Answer.{basic_first, measured_message, telemetry_written, payload_telemetry, basic_telemetry, telemetry_if_payload, telemetry_read, telemetry_if_message, word_telemetry}
use Rattle.telemetry.specs.declared.Measured.{Measured}
use Rattle.telemetry.specs.declared.Reading.{Reading}

-- ---- The cases of writing

module _ (m : Measured) where
  -- What refuses the ranges refuses the message; else nothing is out of its range.
  pub measured_refused : (f : Refusal) → range_checked basic_first m ≡ Err f → measured_message m ≡ Err f
  unfolding range_checked measured_message
  measured_refused f e =
      let (refused, its) = cond_held (ltb (first_out_of_range basic_first m) 9) e (ok_not_refused f m) in
      let same : Refusal.OutOfRange (first_out_of_range basic_first m) ≡ f = cc in
      rw (refused, same)

  pub measured_checked : (held : Measured) → range_checked basic_first m ≡ Ok held → (held ≡ m) × (9 ≤ first_out_of_range basic_first m)
  unfolding range_checked
  measured_checked held e =
      let passed = cond_passed (ltb (first_out_of_range basic_first m) 9) e (refused_not_ok _ held) in
      (cc, ltb-false _ _ passed.0)

  pub measured_payload : 9 ≤ first_out_of_range basic_first m → measured_message m ≡ payload_message basic_first (payload_from basic_bit m)
  unfolding measured_message
  measured_payload h = rw (le-ltb _ 9 h)

  -- What is written is in range, and its message is that of its numbers.
  pub range_of_written : (power : ℕ) → measured_message m ≡ Ok power
      → (9 ≤ first_out_of_range basic_first m) × (payload_message basic_first (payload_from basic_bit m) ≡ Ok power)
  unfolding measured_message
  range_of_written power e =
      let tests = cond_passed (ltb (first_out_of_range basic_first m) 9) e (refused_not_ok _ power) in
      (ltb-false _ _ tests.0, tests.1)

module _ (callsign locator : List ℕ) (m : Measured) where
  pub written_length : right_lengths (length callsign) (length locator) ≡ false → telemetry_written callsign locator m ≡ Err Refusal.WrongLength
  unfolding telemetry_written
  written_length e = rw e

  pub written_measured : right_lengths (length callsign) (length locator) ≡ true → telemetry_written callsign locator m ≡ measured_message m
  unfolding telemetry_written
  written_measured e = rw e

  pub measured_of_written : (power : ℕ) → telemetry_written callsign locator m ≡ Ok power → measured_message m ≡ Ok power
  unfolding telemetry_written
  measured_of_written power e = (cond_passed (not (right_lengths (length callsign) (length locator))) e (refused_not_ok _ power)).1

-- ---- The cases of reading the two numbers

module _ (p : Payload) where
  pub payload_position : 615_168 ≤ p.upper → payload_telemetry p ≡ Err Refusal.BadPositionNumber
  unfolding payload_telemetry
  payload_position h = rw (le-leb 615_168 p.upper h)

  module _ (position : p.upper < 615_168) where
    pub payload_sensors : 604_800 ≤ p.lower → payload_telemetry p ≡ Err Refusal.BadSensorNumber
    unfolding payload_telemetry
    payload_sensors h = rw (lt-leb 615_168 p.upper position, le-leb 604_800 p.lower h)

    pub payload_reading : p.lower < 604_800 → payload_telemetry p ≡ Ok (reading_of p)
    unfolding payload_telemetry
    payload_reading h = rw (lt-leb 615_168 p.upper position, lt-leb 604_800 p.lower h)

  pub basic_extended : (p.lower % 2 ≡ basic_bit → ⊥) → basic_telemetry p ≡ Err Refusal.ExtendedTelemetry
  unfolding basic_telemetry
  basic_extended e = rw (ne_eqb _ basic_bit e)

  pub basic_numbers : p.lower % 2 ≡ basic_bit → basic_telemetry p ≡ payload_telemetry p
  unfolding basic_telemetry
  basic_numbers e = rw (eq-eqb _ basic_bit e)

-- ---- The cases of reading a message, and the message of a word

module _ (callsign locator : List ℕ) (power : ℕ) where
  pub refused_read : (f : Refusal) → payload_read basic_first callsign locator power ≡ Err f
      → telemetry_read callsign locator power ≡ Err f
  unfolding telemetry_read telemetry_if_payload
  refused_read f e = rw e

  pub read_payload : (p : Payload) → payload_read basic_first callsign locator power ≡ Ok p
      → telemetry_read callsign locator power ≡ basic_telemetry p
  unfolding telemetry_read telemetry_if_payload
  read_payload p e = rw e

  -- Small letters count as their capitals.
  pub telemetry_capitals : telemetry_read (capital_form callsign) (capital_form locator) power ≡ telemetry_read callsign locator power
  unfolding telemetry_read
  telemetry_capitals = ap telemetry_if_payload (read_capitals basic_first callsign locator power)

module _ (callsign locator : List ℕ) (word : ℕ) (right : right_lengths (length callsign) (length locator) ≡ true) where
  pub word_refused : (f : Refusal) → word_unpacked callsign locator word ≡ Err f → word_telemetry word ≡ Err f
  unfolding word_telemetry telemetry_if_message
  word_refused f e = rw (sym (unpacked_read callsign locator word right) ∙ e)

  pub word_read : (power : ℕ) → word_unpacked callsign locator word ≡ Ok power
      → word_telemetry word ≡ telemetry_read (callsign_after_unpack callsign locator word) (locator_after_unpack callsign locator word) power
  unfolding word_telemetry telemetry_if_message callsign_after_unpack locator_after_unpack content_after
  word_read power e = rw (e, sym (unpacked_read callsign locator word right) ∙ e)

-- ---- What is read

-- The numbers hold readings, and these are they.
pub record HoldsReading (p : Payload) (r : Reading) : Type 0 where
  pub position : p.upper < 615_168
  pub sensors : p.lower < 604_800
  pub is_reading : r ≡ reading_of p

pub holds_reading : (p : Payload) (r : Reading) → payload_telemetry p ≡ Ok r → HoldsReading p r
unfolding payload_telemetry
holds_reading p r e =
    let position = cond_passed (leb 615_168 p.upper) e (refused_not_ok _ r) in
    let sensors = cond_passed (leb 604_800 p.lower) position.1 (refused_not_ok _ r) in
    record { position = leb-false _ _ position.0; sensors = leb-false _ _ sensors.0; is_reading = cc }

is_basic : (p : Payload) (r : Reading) → basic_telemetry p ≡ Ok r → (p.lower % 2 ≡ basic_bit) × HoldsReading p r
unfolding basic_telemetry
is_basic p r e =
    let lowest = cond_passed (not (eqb (p.lower % 2) basic_bit)) e (refused_not_ok _ r) in
    (eqb-true _ _ (not-false _ lowest.0), holds_reading p r lowest.1)

-- A message that is read has a payload that is basic telemetry's.
pub basic : (callsign locator : List ℕ) (power : ℕ) (r : Reading) → telemetry_read callsign locator power ≡ Ok r
    → (p : Payload) × ((payload_read basic_first callsign locator power ≡ Ok p) × ((p.lower % 2 ≡ basic_bit) × HoldsReading p r))
basic callsign locator power r e = go (payload_read basic_first callsign locator power) refl
  where
    go : (answer : Result Payload Refusal) → payload_read basic_first callsign locator power ≡ answer
        → (p : Payload) × ((payload_read basic_first callsign locator power ≡ Ok p) × ((p.lower % 2 ≡ basic_bit) × HoldsReading p r))
    go (Ok p) k = (p, (k, is_basic p r (sym (read_payload callsign locator power p k) ∙ e)))
    go (Err f) k = absurd (refused_not_ok f r (sym (refused_read callsign locator power f k) ∙ e))
