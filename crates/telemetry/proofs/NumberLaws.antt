-- Laws of the two numbers: what is measured gives digits below their radices, the readings in the numbers are the quantised ones, and
-- the readings in any two numbers below their ends give those numbers again.
use mathlib.Core.Path.{◌≡◌, refl}
use Prim.Native.Nat.{ℕ, ◌+◌, ◌-◌, ◌/◌, ◌%◌, ◌≤◌, ◌<◌}
use native.Mathlib.Nat.{add-sub_cancel}
use native.Mathlib.Omega.{arith}
use mathlib.Core.Bool.{true}
use Rattle.radix.specs.Numeral.{Digits, Positive, count, number_from, number_of, digits_of}
use Rattle.radix.proofs.Laws.{number_below, digits_in_range, digits_of_number_of, number_of_digits_of}
use Rattle.u4b.specs.Channel.{is_first_character, is_third_character}
use Rattle.u4b.specs.declared.channel.FirstCharacters.{FirstCharacters}
use Rattle.u4b.specs.declared.Payload.{Payload}
use Rattle.telemetry.specs.Payload.{position_radices, position_digits, position_number, sensor_radices, sensor_digits, sensor_number, payload_from, reading_from, reading_of}
use Rattle.telemetry.specs.RoundTrip.{quantised, in_tenths}
use Rattle.telemetry.specs.declared.Measured.{Measured}
use Rattle.telemetry.proofs.RangeLaws.{InRange}
use Rattle.telemetry.proofs.CodeLaws.{coded, temperature_back, altitude_below, altitude_back, voltage_below, voltage_back, speed_below, speed_back}

-- ---- The radices

pub position_positive : Positive position_radices
unfolding Positive position_radices
position_positive = omega arith

pub position_count : count position_radices ≡ 615_168
unfolding count position_radices
position_count = refl

pub sensor_positive : Positive sensor_radices
unfolding Positive sensor_radices
sensor_positive = omega arith

pub sensor_count : count sensor_radices ≡ 604_800
unfolding count sensor_radices
sensor_count = refl

-- ---- The digits of what is measured

letter_again : (g : ℕ) → 65 ≤ g → g - 65 + 65 ≡ g
letter_again g h = omega arith

module _ {taken : FirstCharacters} (m : Measured) (r : InRange taken m) where
  pub digits_of_position : Digits position_radices (position_digits m)
  unfolding Digits position_radices position_digits
  digits_of_position =
      let g5 = r.grid5 in
      let g6 = r.grid6 in
      (omega arith, (omega arith, (altitude_below m.sensors.altitude r.altitude, tt)))

  pub position_below : position_number m < 615_168
  unfolding position_number
  position_below = rw (← position_count) (number_below position_radices (position_digits m) digits_of_position)

  module _ (lowest : ℕ) (bit : lowest ≤ 1) where
    pub digits_of_sensors : Digits sensor_radices (sensor_digits lowest m.sensors)
    unfolding Digits sensor_radices sensor_digits
    digits_of_sensors =
        let s = m.sensors in (
          (coded s.temperature r.temperature).below,
          (voltage_below s.voltage, (speed_below s.speed r.speed, (omega (arith, r.gps), (omega arith, tt)))),
        )

    pub sensor_below : sensor_number lowest m.sensors < 604_800
    unfolding sensor_number
    sensor_below = rw (← sensor_count) (number_below sensor_radices (sensor_digits lowest m.sensors) digits_of_sensors)

    -- The lowest digit stands where it is looked for.
    pub lowest_digit : sensor_number lowest m.sensors % 2 ≡ lowest
    unfolding sensor_number sensor_radices sensor_digits number_of number_from
    lowest_digit = omega arith

    -- The readings in the two numbers are the quantised ones.
    pub reading_of_payload : reading_of (payload_from lowest m) ≡ quantised m
    unfolding payload_from reading_of reading_from position_number sensor_number position_digits sensor_digits quantised
    reading_of_payload =
        rw (
          digits_of_number_of position_radices (position_digits m) digits_of_position,
          digits_of_number_of sensor_radices (sensor_digits lowest m.sensors) digits_of_sensors,
          letter_again m.square.grid5 r.grid5.0,
          letter_again m.square.grid6 r.grid6.0,
        )

-- ---- The readings in two numbers

module _ (p : Payload) where
  -- What the readings in the two numbers write.
  abbrev again : Measured
  again = in_tenths (reading_of p)

  pub again_in_range : {taken : FirstCharacters} → is_first_character taken p.channel.first ≡ true → is_third_character p.channel.third ≡ true
      → InRange taken again
  unfolding Digits digits_of in_tenths reading_of reading_from position_radices sensor_radices
  again_in_range is_first is_third =
      let position = digits_in_range position_radices p.upper position_positive in
      let sensors = digits_in_range sensor_radices p.lower sensor_positive in
      let volts = voltage_back _ sensors.1.0 in
      record {
        first = is_first;
        third = is_third;
        grid5 = (omega arith, omega arith);
        grid6 = (omega arith, omega arith);
        altitude = (altitude_back _ position.1.1.0).0;
        temperature = (temperature_back _ sensors.0).0;
        voltage = (volts.0, volts.1.0);
        speed = (speed_back _ sensors.1.1.0).0;
        gps = omega arith;
      }

  again_position_digits : position_digits again ≡ digits_of position_radices p.upper
  unfolding Digits digits_of in_tenths reading_of reading_from position_radices position_digits
  again_position_digits =
      let position = digits_in_range position_radices p.upper position_positive in
      rw (add-sub_cancel, add-sub_cancel, (altitude_back _ position.1.1.0).1)

  again_sensor_digits : sensor_digits (p.lower % 2) again.sensors ≡ digits_of sensor_radices p.lower
  unfolding Digits digits_of count in_tenths reading_of reading_from sensor_radices sensor_digits
  again_sensor_digits =
      let sensors = digits_in_range sensor_radices p.lower sensor_positive in
      let last : p.lower / 1 % 2 ≡ p.lower % 2 = omega arith in
      rw ((temperature_back _ sensors.0).1, (voltage_back _ sensors.1.0).1.1, (speed_back _ sensors.1.1.0).1, last)

  again_position : p.upper < 615_168 → position_number again ≡ p.upper
  unfolding position_number
  again_position h = rw again_position_digits (number_of_digits_of position_radices position_positive (rw position_count h))

  again_sensors : p.lower < 604_800 → sensor_number (p.lower % 2) again.sensors ≡ p.lower
  unfolding sensor_number
  again_sensors h = rw again_sensor_digits (number_of_digits_of sensor_radices sensor_positive (rw sensor_count h))

  -- With the lowest digit they give the two numbers again.
  pub payload_again : p.upper < 615_168 → p.lower < 604_800 → payload_from (p.lower % 2) again ≡ p
  unfolding payload_from in_tenths reading_of reading_from
  payload_again h k = rw (again_position h, again_sensors k)
