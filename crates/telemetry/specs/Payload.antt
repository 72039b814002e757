-- The two numbers that hold what is measured, and the readings in them (01, 'Telemetry').
use Rattle.std.specs.Prelude.{ℕ, ◌+◌, ◌-◌, List, [], ◌∷◌, get_or}
use Rattle.radix.specs.Numeral.{number_of, digits_of}
use Rattle.telemetry.specs.Codes.{altitude_code, temperature_code, voltage_code, speed_code, metres, degrees, millivolts, knots}
use Rattle.u4b.specs.declared.channel.Channel.{Channel}
use Rattle.u4b.specs.declared.Payload.{Payload}
use Rattle.telemetry.specs.declared.Sensors.{Sensors}
use Rattle.telemetry.specs.declared.Measured.{Measured}
use Rattle.telemetry.specs.declared.Reading.{Reading}

-- ---- The number of the sub-square and altitude (01: A)

-- "A = (g5·24 + g6)·1068 + altitude code, 0 to 615,167."
unfoldable pub position_radices : List ℕ
position_radices = 24 ∷ 24 ∷ 1_068 ∷ []

-- "Sub-square letters g5, g6 are A-X, passed in and out as capital letters and counted 0 to 23." In ASCII, A is 65; in the range no
-- difference falls below 0.
unfoldable pub position_digits : Measured → List ℕ
position_digits m = (m.square.grid5 - 65) ∷ (m.square.grid6 - 65) ∷ altitude_code m.sensors.altitude ∷ []

unfoldable pub position_number : Measured → ℕ
position_number m = number_of position_radices (position_digits m)

-- ---- The number of temperature, voltage, speed and GPS (01: B)

-- "B = (((temperature code·40 + voltage code)·42 + speed code)·2 + GPS)·2 + 1, below 604,800."
unfoldable pub sensor_radices : List ℕ
sensor_radices = 90 ∷ 40 ∷ 42 ∷ 2 ∷ 2 ∷ []

-- "·2 + 1": the lowest digit, by which a message is one of basic telemetry.
abbrev pub basic_bit : ℕ
basic_bit = 1

unfoldable pub sensor_digits : ℕ → Sensors → List ℕ
sensor_digits lowest s = temperature_code s.temperature ∷ voltage_code s.voltage ∷ speed_code s.speed ∷ s.gps ∷ lowest ∷ []

unfoldable pub sensor_number : ℕ → Sensors → ℕ
sensor_number lowest s = number_of sensor_radices (sensor_digits lowest s)

-- ---- The channel and both numbers

unfoldable pub payload_from : ℕ → Measured → Payload
payload_from lowest m = record { channel = m.channel; upper = position_number m; lower = sensor_number lowest m.sensors }

-- ---- Back

-- The readings in the two numbers' digits, whatever the lowest is.
unfoldable pub reading_from : Channel → List ℕ → List ℕ → Reading
reading_from channel position sensors = record {
  channel = channel;
  square = record { grid5 = get_or position 0 0 + 65; grid6 = get_or position 1 0 + 65 };
  sensors = record {
    altitude = metres (get_or position 2 0);
    temperature = degrees (get_or sensors 0 0);
    voltage = millivolts (get_or sensors 1 0);
    speed = knots (get_or sensors 2 0);
    gps = get_or sensors 3 0;
  };
}

-- The readings in the two numbers.
unfoldable pub reading_of : Payload → Reading
reading_of p = reading_from p.channel (digits_of position_radices p.upper) (digits_of sensor_radices p.lower)
