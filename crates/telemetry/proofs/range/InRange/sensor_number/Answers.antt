-- `telemetry::range::InRange::sensor_number` meets its contract: in range the digits are below their radices, and `radix::pack` makes
-- their number.
-- Assumes nothing.
use Rattle.std.proofs.Common.{rules}
use native.Mathlib.Omega.{arith}
use mir.Facts.{to_z-of_z}
use mir.Syntax.{w32}
use mir.Val.{SFits}
use Rattle.telemetry.specs.Codes.{speed_code}
use Rattle.telemetry.specs.Payload.{sensor_radices, sensor_digits, sensor_number}
use Rattle.telemetry.proofs.RangeLaws.{in_range_for_some}
use Rattle.telemetry.proofs.NumberLaws.{digits_of_sensors, sensor_count}
use Rattle.telemetry.proofs.range.InRange.sensor_number.Goals as goal

pub temperature_code-requires : goal.temperature_code-requires
temperature_code-requires c =
    let fits : SFits w32 c.self.inside.measured.sensors.temperature = search rules in
    rw (to_z-of_z fits) (in_range_for_some c.self.invariant).temperature

pub voltage_code-requires : goal.voltage_code-requires
voltage_code-requires c = (in_range_for_some c.self.invariant).voltage.0

pub pack-requires : goal.pack-requires
unfolding sensor_radices sensor_digits speed_code
pack-requires c =
    let fits : SFits w32 c.self.inside.measured.sensors.temperature = search rules in
    record {
      digits =
          rw (c.temperature_code.ensures, c.voltage_code.ensures, c.from.ensures, c.from-2.ensures, to_z-of_z fits)
          (digits_of_sensors c.self.inside.measured (in_range_for_some c.self.invariant) c.args.lowest c.requires);
      radices_bound = omega (arith, sensor_count);
    }

pub returns : goal.returns
unfolding sensor_radices sensor_digits sensor_number speed_code
returns c =
    let fits : SFits w32 c.self.inside.measured.sensors.temperature = search rules in
    rw (← c.self.view_is) (rw (c.temperature_code.ensures, c.voltage_code.ensures, c.from.ensures, c.from-2.ensures, to_z-of_z fits) at c.pack.ensures)
