-- What writing and reading telemetry promise of each other (demand 2): the round trips, how far what reads back is from what was measured
-- (02, L2), and that the reader refuses exactly the messages whose capital form the writer never makes (02, L4).
use Rattle.std.specs.Prelude.{ℕ, ◌*◌, ◌≡◌, ◌↔◌, List, pos, ◌*ℤ◌, Result, Ok, Err}
use Rattle.basics.specs.Rounding.{WithinStepBelow}
use Rattle.message.specs.Character.{capital_form}
use Rattle.message.specs.Answer.{message_packed}
use Rattle.refusal.specs.declared.Refusal.{Refusal}
use Rattle.refusal.specs.Refusals.{Refused}
use Rattle.telemetry.specs.Codes.{altitude_code, temperature_code, voltage_code, speed_code, metres, degrees, millivolts, knots}
use Rattle.telemetry.specs.Answer.{measured_message, measured_callsign, measured_locator, telemetry_read}
use Rattle.telemetry.specs.declared.Sensors.{Sensors}
use Rattle.telemetry.specs.declared.Measured.{Measured}
use Rattle.telemetry.specs.declared.Reading.{Reading}

-- What is read back of what was measured: each reading back of its code.
unfoldable pub quantised : Measured → Reading
quantised m =
    let s = m.sensors in
    record {
      channel = m.channel;
      square = m.square;
      sensors = record {
        altitude = metres (altitude_code s.altitude);
        temperature = degrees (temperature_code s.temperature);
        voltage = millivolts (voltage_code s.voltage);
        speed = knots (speed_code s.speed);
        gps = s.gps;
      };
    }

-- A reading as what is sent: degrees and knots in tenths.
unfoldable pub in_tenths : Reading → Measured
in_tenths r =
    let s = r.sensors in
    record {
      channel = r.channel;
      square = r.square;
      sensors = record {
        altitude = s.altitude;
        temperature = s.temperature *ℤ pos 10;
        voltage = s.voltage;
        speed = s.speed * 10;
        gps = s.gps;
      };
    }

-- This message is written from what was measured.
pub record MeasuredWritesAs (m : Measured) (callsign locator : List ℕ) (power : ℕ) : Type 0 where
  pub its_power : measured_message m ≡ Ok power
  pub its_callsign : measured_callsign m ≡ callsign
  pub its_locator : measured_locator m ≡ locator

-- What was written reads back, quantised: the callsign and locator with the answer's power, where it has one.
abbrev pub TelemetryReadsBack : Result ℕ Refusal → Measured → List ℕ → List ℕ → Type 0
TelemetryReadsBack (Ok p) m callsign locator = telemetry_read callsign locator p ≡ Ok (quantised m)
TelemetryReadsBack (Err f) m callsign locator = Unit

-- "the reading sent back is never above the true one and less than one step below it, for altitude, temperature, voltage and speed alike, in
-- exact whole numbers": in metres, tenths of a degree, millivolts and tenths of a knot, as they were measured.
pub record SensorsWithinSteps (measured back : Sensors) : Type 0 where
  pub altitude : WithinStepBelow 20 (pos measured.altitude) (pos back.altitude)
  pub temperature : WithinStepBelow 10 measured.temperature back.temperature
  pub voltage : WithinStepBelow 50 (pos measured.voltage) (pos back.voltage)
  pub speed : WithinStepBelow 20 (pos measured.speed) (pos back.speed)

-- The answer has readings, and these are within steps of what was measured.
abbrev pub ReadWithinSteps : Result Reading Refusal → Measured → Type 0
ReadWithinSteps (Ok r) m = SensorsWithinSteps m.sensors (in_tenths r).sensors
ReadWithinSteps (Err f) m = ⊥

-- What was written reads back within steps: the callsign and locator with the answer's power, where it has one.
abbrev pub TelemetryWithinSteps : Result ℕ Refusal → Measured → List ℕ → List ℕ → Type 0
TelemetryWithinSteps (Ok p) m callsign locator = ReadWithinSteps (telemetry_read callsign locator p) m
TelemetryWithinSteps (Err f) m callsign locator = Unit

-- What was read writes the capital form back: the answer's readings, where it has them, write the message in capitals.
abbrev pub TelemetryWritesBack : Result Reading Refusal → List ℕ → List ℕ → ℕ → Type 0
TelemetryWritesBack (Ok r) callsign locator power =
    MeasuredWritesAs (in_tenths r) (capital_form callsign) (capital_form locator) power
TelemetryWritesBack (Err f) callsign locator power = Unit

-- Nothing that is measured writes this message. Numbers that don't fit the types of the fields are out of range, so that nothing is added
-- by naming them here.
abbrev pub NeverFromMeasured : List ℕ → List ℕ → ℕ → Type 0
NeverFromMeasured callsign locator power = (m : Measured) → MeasuredWritesAs m callsign locator power → ⊥

-- The answer is a refusal exactly where nothing that is measured writes the message's capital form.
abbrev pub TelemetryRefusedExactly : Result Reading Refusal → List ℕ → List ℕ → ℕ → Type 0
TelemetryRefusedExactly answer callsign locator power =
    Refused answer ↔ NeverFromMeasured (capital_form callsign) (capital_form locator) power

-- ---- The telemetry of a word

-- What was measured is sent as this word: its message has it.
pub record SentAs (m : Measured) (word : ℕ) : Type 0 where
  pub power : ℕ
  pub its_power : measured_message m ≡ Ok power
  pub its_word : message_packed (measured_callsign m) (measured_locator m) power ≡ Ok word

-- What was read of a word is sent as that word again.
abbrev pub WordSentBack : Result Reading Refusal → ℕ → Type 0
WordSentBack (Ok r) word = SentAs (in_tenths r) word
WordSentBack (Err f) word = Unit

-- Nothing that is measured is sent as this word.
abbrev pub NeverSent : ℕ → Type 0
NeverSent word = (m : Measured) → SentAs m word → ⊥

-- The answer is a refusal exactly where nothing that is measured is sent as the word.
abbrev pub WordTelemetryRefusedExactly : Result Reading Refusal → ℕ → Type 0
WordTelemetryRefusedExactly answer word = Refused answer ↔ NeverSent word
