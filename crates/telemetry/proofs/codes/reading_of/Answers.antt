-- `telemetry::codes::reading_of` meets its contract: `radix::unpack` gives the digits of the two numbers, which are below their radices,
-- and each reading is that of its digit.
-- Assumes nothing.
use mathlib.Core.Path.{◌≡◌, refl, ◌∙◌}
use Prim.Native.Nat.{ℕ, ◌+◌, ◌*◌, ◌<◌}
use lib.IntN.{ℤ}
use mir.Facts.{to_z-of_z}
use mir.Syntax.{w32}
use native.Mathlib.Omega.{arith}
use mathlib.Core.List.{List}
use lib.ListN.{get_or}
use Rattle.radix.specs.Numeral.{Digits, digits_of}
use Rattle.radix.proofs.Laws.{digits_in_range}
use Rattle.telemetry.specs.Codes.{metres, degrees, millivolts, knots}
use Rattle.telemetry.specs.Payload.{position_radices, sensor_radices, reading_from, reading_of}
use Rattle.u4b.specs.declared.Payload.{Payload}
use Rattle.telemetry.specs.declared.Reading.{Reading}
use Rattle.telemetry.proofs.CodeLaws.{degrees_fits}
use Rattle.telemetry.proofs.NumberLaws.{position_positive, sensor_positive}
use Rattle.telemetry.proofs.codes.reading_of.Goals as goal

-- Digits below the radices.
record PositionDigits (p : List ℕ) : Type 0 where
  pub grid5 : get_or p 0 0 < 24
  pub grid6 : get_or p 1 0 < 24
  pub altitude : get_or p 2 0 < 1_068

record SensorDigits (s : List ℕ) : Type 0 where
  pub temperature : get_or s 0 0 < 90
  pub voltage : get_or s 1 0 < 40
  pub speed : get_or s 2 0 < 42
  pub gps : get_or s 3 0 < 2

position_digits : (n : ℕ) (p : List ℕ) → p ≡ digits_of position_radices n → PositionDigits p
unfolding Digits digits_of position_radices
position_digits n p e =
    let d = digits_in_range position_radices n position_positive in
    rw e (record { grid5 = d.0; grid6 = d.1.0; altitude = d.1.1.0 })

sensor_digits : (n : ℕ) (s : List ℕ) → s ≡ digits_of sensor_radices n → SensorDigits s
unfolding Digits digits_of sensor_radices
sensor_digits n s e =
    let d = digits_in_range sensor_radices n sensor_positive in
    rw e (record { temperature = d.0; voltage = d.1.0; speed = d.1.1.0; gps = d.1.1.1.0 })

-- The readings of digits, with those of temperature and voltage as they were called for.
made : (payload : Payload) {p s : List ℕ} {t : ℤ} {v : ℕ} → t ≡ degrees (get_or s 0 0) → v ≡ millivolts (get_or s 1 0)
    → p ≡ digits_of position_radices payload.upper → s ≡ digits_of sensor_radices payload.lower
    → ◌≡◌ {A = Reading} (record {
      channel = payload.channel;
      square = record { grid5 = get_or p 0 0 + 65; grid6 = get_or p 1 0 + 65 };
      sensors = record { altitude = 20 * get_or p 2 0; temperature = t; voltage = v; speed = 2 * get_or s 2 0; gps = get_or s 3 0 };
    }) (reading_of payload)
unfolding reading_from reading_of metres knots
made payload warm volts position sensors = rw (warm, volts, position, sensors)

pub unpack-requires : goal.unpack-requires
unfolding position_radices
unpack-requires c =
    record { positive = position_positive; digits_len = refl }

pub unpack-requires-2 : goal.unpack-requires-2
unfolding sensor_radices
unpack-requires-2 c =
    record { positive = sensor_positive; digits_len = refl }

pub overflow_cast-result : goal.overflow_cast-result
unfolding position_radices
overflow_cast-result c = record { fits = omega (arith, (position_digits _ _ c.unpack.ensures.written).grid5) }

pub overflow_add-result : goal.overflow_add-result
unfolding position_radices
overflow_add-result c = record { fits = omega (arith, (position_digits _ _ c.unpack.ensures.written).grid5) }

pub overflow_cast-result-2 : goal.overflow_cast-result-2
unfolding position_radices
overflow_cast-result-2 c = record { fits = omega (arith, (position_digits _ _ c.unpack.ensures.written).grid6) }

pub overflow_add-result-2 : goal.overflow_add-result-2
unfolding position_radices
overflow_add-result-2 c = record { fits = omega (arith, (position_digits _ _ c.unpack.ensures.written).grid6) }

pub overflow_mul-result : goal.overflow_mul-result
unfolding position_radices
overflow_mul-result c = record { fits = omega (arith, (position_digits _ _ c.unpack.ensures.written).altitude) }

pub overflow_cast-result-3 : goal.overflow_cast-result-3
unfolding position_radices
overflow_cast-result-3 c = record { fits = omega (arith, (position_digits _ _ c.unpack.ensures.written).altitude) }

pub degrees_of-requires : goal.degrees_of-requires
unfolding sensor_radices
degrees_of-requires c = omega (arith, (sensor_digits _ _ c.unpack-2.ensures.written).temperature)

pub millivolts_of-requires : goal.millivolts_of-requires
unfolding sensor_radices
millivolts_of-requires c = omega (arith, (sensor_digits _ _ c.unpack-2.ensures.written).voltage)

pub overflow_mul-result-2 : goal.overflow_mul-result-2
unfolding sensor_radices
overflow_mul-result-2 c = record { fits = omega (arith, (sensor_digits _ _ c.unpack-2.ensures.written).speed) }

pub overflow_cast-result-4 : goal.overflow_cast-result-4
unfolding sensor_radices
overflow_cast-result-4 c = record { fits = omega (arith, (sensor_digits _ _ c.unpack-2.ensures.written).speed) }

pub overflow_cast-result-5 : goal.overflow_cast-result-5
unfolding sensor_radices
overflow_cast-result-5 c = record { fits = omega (arith, (sensor_digits _ _ c.unpack-2.ensures.written).gps) }

pub returns : goal.returns
unfolding position_radices sensor_radices
returns c =
    let warm = c.degrees_of.ensures in
    let held = to_z-of_z {w = w32} {z = c.degrees_of.result} (rw warm (degrees_fits _ (sensor_digits _ _ c.unpack-2.ensures.written).temperature)) in
    made c.args.payload (held ∙ warm) c.millivolts_of.ensures c.unpack.ensures.written c.unpack-2.ensures.written
