-- The round trips between what is measured and its message, how far what reads back is from what was measured, and that the reader refuses
-- exactly the messages whose capital form the writer never makes.
use mathlib.Core.Path.{◌≡◌, refl, sym, ap, ◌∙◌}
use mathlib.Core.Logic.{◌↔◌}
use Prim.Native.Nat.{ℕ, ◌≤◌}
use native.Mathlib.Omega.{arith}
use mathlib.Core.List.{List}
use Rattle.message.specs.Character.{capital_form}
use Rattle.message.specs.Word.{callsign_of, locator_of}
use Rattle.message.specs.Answer.{word_message, content_after, message_numbers}
use Rattle.message.specs.RoundTrip.{WrittenInCapitals}
use Rattle.std.specs.Prelude.{Result, Ok, Err}
use Rattle.refusal.specs.declared.Refusal.{Refusal}
use Rattle.refusal.specs.Refusals.{Refused}
use Rattle.refusal.proofs.Laws.{refused_not_ok}
use Rattle.message.proofs.CapitalLaws.{packed_capitals}
use Rattle.message.proofs.RoundTripLaws.{unpack_pack, pack_unpack}
use Rattle.u4b.specs.declared.channel.FirstCharacters.{FirstCharacters}
use Rattle.u4b.proofs.AnswerLaws.{writable}
use Rattle.u4b.proofs.RoundTripLaws as U4b
use Rattle.telemetry.specs.Payload.{basic_bit, payload_from}
use Rattle.telemetry.specs.Answer.{basic_first, measured_message, measured_callsign, measured_locator, telemetry_written, callsign_after_telemetry, locator_after_telemetry, telemetry_read, telemetry_if_message, word_telemetry, telemetry_numbers}
use Rattle.telemetry.specs.RoundTrip.{quantised, in_tenths, MeasuredWritesAs, TelemetryReadsBack, SensorsWithinSteps, ReadWithinSteps, TelemetryWithinSteps, TelemetryWritesBack, NeverFromMeasured, TelemetryRefusedExactly, SentAs, WordSentBack, NeverSent, WordTelemetryRefusedExactly}
use Rattle.telemetry.specs.declared.Measured.{Measured}
use Rattle.telemetry.specs.declared.Reading.{Reading}
use Rattle.telemetry.proofs.RangeLaws.{InRange, in_range, none_out_of_range}
use Rattle.telemetry.proofs.CodeLaws.{altitude_steps, temperature_steps, voltage_steps, speed_steps}
use Rattle.telemetry.proofs.NumberLaws.{position_below, sensor_below, lowest_digit, reading_of_payload, again_in_range, payload_again}
use Rattle.telemetry.proofs.AnswerLaws.{measured_payload, range_of_written, measured_of_written, payload_reading, basic_numbers, read_payload, telemetry_capitals, basic}

-- ---- What was written reads back

pub read_write : (m : Measured) (power : ℕ) → measured_message m ≡ Ok power
    → telemetry_read (measured_callsign m) (measured_locator m) power ≡ Ok (quantised m)
unfolding measured_callsign measured_locator payload_from
read_write m power e =
    let (range, written) = range_of_written m power e in
    let r = in_range basic_first m range in
    let bit : basic_bit ≤ 1 = omega arith in
    let p = payload_from basic_bit m in
    let position = position_below m r in
    let sensors = sensor_below m r basic_bit bit in
    let whole = U4b.whole p (omega arith) (omega arith) in
    read_payload _ _ _ p (U4b.read_write basic_first p power written ∙ ap Ok whole)
    ∙ basic_numbers p (lowest_digit m r basic_bit bit)
    ∙ payload_reading p position sensors
    ∙ ap Ok (reading_of_payload m r basic_bit bit)

-- It is never above what was measured and less than one step below it.
quantised_within_steps : {taken : FirstCharacters} (m : Measured) → InRange taken m → SensorsWithinSteps m.sensors (in_tenths (quantised m)).sensors
unfolding quantised in_tenths
quantised_within_steps m r =
    let s = m.sensors in
    record {
      altitude = altitude_steps s.altitude;
      temperature = temperature_steps s.temperature r.temperature;
      voltage = voltage_steps s.voltage r.voltage.0 r.voltage.1;
      speed = speed_steps s.speed;
    }

pub read_within_steps : (m : Measured) (power : ℕ) → measured_message m ≡ Ok power
    → ReadWithinSteps (telemetry_read (measured_callsign m) (measured_locator m) power) m
read_within_steps m power e =
    rw (read_write m power e) (quantised_within_steps m (in_range basic_first m (range_of_written m power e).0))

-- What is written is in capitals.
written_in_capitals : (m : Measured) (power : ℕ) → measured_message m ≡ Ok power
    → (capital_form (measured_callsign m) ≡ measured_callsign m) × (capital_form (measured_locator m) ≡ measured_locator m)
unfolding measured_callsign measured_locator
written_in_capitals m power e = U4b.written_in_capitals basic_first (payload_from basic_bit m) power (range_of_written m power e).1

-- ---- What was read writes the capital form back

pub write_read : (callsign locator : List ℕ) (power : ℕ) (r : Reading) → telemetry_read callsign locator power ≡ Ok r
    → MeasuredWritesAs (in_tenths r) (capital_form callsign) (capital_form locator) power
unfolding measured_callsign measured_locator
write_read callsign locator power r e =
    let (p, (payload, (lowest, holds))) = basic callsign locator power r e in
    let w = U4b.write_read basic_first callsign locator power p payload in
    let its_channel = writable basic_first p power w.its_power in
    let range = none_out_of_range basic_first _ (again_in_range p its_channel.is_first its_channel.is_third) in
    let again = rw lowest at (payload_again p holds.position holds.sensors) in
    rw holds.is_reading (record {
      its_power = measured_payload _ (omega (arith, range)) ∙ rw again w.its_power;
      its_callsign = rw again w.its_callsign;
      its_locator = rw again w.its_locator;
    })

-- ---- The reader refuses exactly the messages whose capital form the writer never makes

pub refuses_exactly : (callsign locator : List ℕ) (power : ℕ) → TelemetryRefusedExactly (telemetry_read callsign locator power) callsign locator power
refuses_exactly callsign locator power = (λ refused m w. never refused m w, λ never_written. exact (telemetry_read callsign locator power) refl never_written)
  where
    never : Refused (telemetry_read callsign locator power) → NeverFromMeasured (capital_form callsign) (capital_form locator) power
    never refused m w =
        rw (← telemetry_capitals callsign locator power, ← w.its_callsign, ← w.its_locator, read_write m power w.its_power) at refused

    exact : (answer : Result Reading Refusal) → telemetry_read callsign locator power ≡ answer
        → NeverFromMeasured (capital_form callsign) (capital_form locator) power → Refused answer
    exact (Ok r) e never_written = never_written (in_tenths r) (write_read callsign locator power r e)
    exact (Err f) e never_written = tt

-- ---- The telemetry of a word

-- A word that something measured is sent as reads as that, quantised.
read_sent : (m : Measured) (word : ℕ) → SentAs m word → word_telemetry word ≡ Ok (quantised m)
unfolding word_telemetry telemetry_if_message
read_sent m word s =
    let back = unpack_pack (measured_callsign m) (measured_locator m) s.power word s.its_word in
    rw (back.its_power, back.its_callsign, back.its_locator)
    (telemetry_capitals (measured_callsign m) (measured_locator m) s.power ∙ read_write m s.power s.its_power)

-- What was read of a word is sent as that word.
sent_read : (word : ℕ) (answer : Result Reading Refusal) → word_telemetry word ≡ answer → WordSentBack answer word
unfolding word_telemetry telemetry_if_message
sent_read word (Err f) e = tt
sent_read word (Ok r) e = go (word_message word) refl e
  where
    go : (answer : Result ℕ Refusal) → word_message word ≡ answer → telemetry_if_message answer word ≡ Ok r → SentAs (in_tenths r) word
    go (Ok p) its_power read =
        let w = write_read (callsign_of word) (locator_of word) p r read in
        let made = packed_capitals (callsign_of word) (locator_of word) p ∙ pack_unpack word p its_power in
        record { power = p; its_power = w.its_power; its_word = rw (w.its_callsign, w.its_locator) made }
    go (Err f) its_power read = absurd (refused_not_ok f r read)

word_refused_exactly : (word : ℕ) → Refused (word_telemetry word) ↔ NeverSent word
word_refused_exactly word = (λ refused m sent. rw (read_sent m word sent) at refused, λ never. exact (word_telemetry word) refl never)
  where
    exact : (answer : Result Reading Refusal) → word_telemetry word ≡ answer → NeverSent word → Refused answer
    exact (Ok r) e never = never (in_tenths r) (sent_read word (Ok r) e)
    exact (Err f) e never = tt

-- ---- What the functions promise, from their answers and what the lent buffers then hold

module _ (callsign locator : List ℕ) (m : Measured) where
  -- What `write` promises of an answer, clause by clause.
  abbrev pub WritePromised : Result ℕ Refusal → List ℕ → List ℕ → Type 0
  WritePromised result its_callsign its_locator = record {
    answer : result ≡ telemetry_written callsign locator m;
    numbers : message_numbers result ≡ message_numbers (telemetry_written callsign locator m);
    callsign_after : its_callsign ≡ callsign_after_telemetry callsign locator m;
    locator_after : its_locator ≡ locator_after_telemetry callsign locator m;
    reads_back : TelemetryReadsBack result m its_callsign its_locator;
    within_steps : TelemetryWithinSteps result m its_callsign its_locator;
    in_capitals : WrittenInCapitals result its_callsign its_locator;
  }

  reads_back : (answer : Result ℕ Refusal) → telemetry_written callsign locator m ≡ answer
      → TelemetryReadsBack answer m (content_after answer callsign (measured_callsign m)) (content_after answer locator (measured_locator m))
  unfolding content_after
  reads_back (Ok power) e = read_write m power (measured_of_written callsign locator m power e)
  reads_back (Err f) e = tt

  within_steps : (answer : Result ℕ Refusal) → telemetry_written callsign locator m ≡ answer
      → TelemetryWithinSteps answer m (content_after answer callsign (measured_callsign m)) (content_after answer locator (measured_locator m))
  unfolding content_after
  within_steps (Ok power) e = read_within_steps m power (measured_of_written callsign locator m power e)
  within_steps (Err f) e = tt

  in_capitals : (answer : Result ℕ Refusal) → telemetry_written callsign locator m ≡ answer
      → WrittenInCapitals answer (content_after answer callsign (measured_callsign m)) (content_after answer locator (measured_locator m))
  unfolding content_after
  in_capitals (Ok power) e = written_in_capitals m power (measured_of_written callsign locator m power e)
  in_capitals (Err f) e = tt

  pub write_promised : (answer : Result ℕ Refusal) → telemetry_written callsign locator m ≡ answer
      → WritePromised answer (content_after answer callsign (measured_callsign m)) (content_after answer locator (measured_locator m))
  unfolding callsign_after_telemetry locator_after_telemetry
  write_promised answer e = record {
    answer = sym e;
    numbers = rw e;
    callsign_after = rw e;
    locator_after = rw e;
    reads_back = reads_back answer e;
    within_steps = within_steps answer e;
    in_capitals = in_capitals answer e;
  }

module _ (callsign locator : List ℕ) (power : ℕ) where
  -- What `read` promises of an answer, clause by clause.
  abbrev pub ReadPromised : Result Reading Refusal → Type 0
  ReadPromised result = record {
    answer : result ≡ telemetry_read callsign locator power;
    numbers : telemetry_numbers result ≡ telemetry_numbers (telemetry_read callsign locator power);
    as_capitals : result ≡ telemetry_read (capital_form callsign) (capital_form locator) power;
    writes_back : TelemetryWritesBack result callsign locator power;
    refuses_exactly : TelemetryRefusedExactly result callsign locator power;
  }

  writes_back : (answer : Result Reading Refusal) → telemetry_read callsign locator power ≡ answer → TelemetryWritesBack answer callsign locator power
  writes_back (Ok r) e = write_read callsign locator power r e
  writes_back (Err f) e = tt

  pub read_promised : (answer : Result Reading Refusal) → telemetry_read callsign locator power ≡ answer → ReadPromised answer
  read_promised answer e = record {
    answer = sym e;
    numbers = rw e;
    as_capitals = sym (telemetry_capitals callsign locator power ∙ e);
    writes_back = writes_back answer e;
    refuses_exactly = rw e at (refuses_exactly callsign locator power);
  }

module _ (word : ℕ) where
  -- What `read_word` promises of an answer, clause by clause.
  abbrev pub WordPromised : Result Reading Refusal → Type 0
  WordPromised result = record {
    answer : result ≡ word_telemetry word;
    numbers : telemetry_numbers result ≡ telemetry_numbers (word_telemetry word);
    sent_back : WordSentBack result word;
    refuses_exactly : WordTelemetryRefusedExactly result word;
  }

  pub word_promised : (answer : Result Reading Refusal) → word_telemetry word ≡ answer → WordPromised answer
  word_promised answer e = record {
    answer = sym e;
    numbers = rw e;
    sent_back = sent_read word answer e;
    refuses_exactly = rw e at (word_refused_exactly word);
  }
