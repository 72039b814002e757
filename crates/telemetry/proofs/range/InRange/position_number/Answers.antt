-- `telemetry::range::InRange::position_number` meets its contract: in range the digits are below their radices, and `radix::pack` makes
-- their number.
-- Assumes nothing.
use native.Mathlib.Omega.{arith}
use Rattle.telemetry.specs.Codes.{altitude_code}
use Rattle.telemetry.specs.Payload.{position_radices, position_digits, position_number}
use Rattle.telemetry.proofs.RangeLaws.{in_range_for_some}
use Rattle.telemetry.proofs.NumberLaws.{digits_of_position, position_count}
use Rattle.telemetry.proofs.range.InRange.position_number.Goals as goal

pub overflow_sub-square : goal.overflow_sub-square
overflow_sub-square c = (in_range_for_some c.self.invariant).grid5.0

pub overflow_sub-square-2 : goal.overflow_sub-square-2
overflow_sub-square-2 c = (in_range_for_some c.self.invariant).grid6.0

pub pack-requires : goal.pack-requires
unfolding position_radices position_digits altitude_code
pack-requires c = record {
  digits = rw (c.from.ensures, c.from-2.ensures, c.from-3.ensures) (digits_of_position c.self.inside.measured (in_range_for_some c.self.invariant));
  radices_bound = omega (arith, position_count);
}

pub returns : goal.returns
unfolding position_radices position_digits position_number altitude_code
returns c = rw (← c.self.view_is, ← c.from.ensures, ← c.from-2.ensures, ← c.from-3.ensures) c.pack.ensures
