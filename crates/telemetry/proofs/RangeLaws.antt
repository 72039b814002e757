-- Laws of the ranges: what each range says, and that nothing is out of its range exactly where all are in it.
use mathlib.Core.Path.{◌≡◌}
use Rattle.std.specs.Prelude.{Ok, Err}
use Rattle.refusal.specs.declared.Refusal.{Refusal}
use Prim.Native.Nat.{ℕ, ◌≤◌, ◌<◌}
use native.Mathlib.Omega.{arith}
use mathlib.Core.Bool.{true}
use borrow.Author.Tests.{lt-ltb, le-ltb}
use Rattle.basics.specs.Lists.{is_true}
use Rattle.basics.proofs.Choice.{between_true, between_range}
use Rattle.basics.proofs.ListLaws.{AllPass, first_failing_end, all_pass, none_fails}
use Rattle.u4b.specs.Channel.{is_first_character, is_third_character}
use Rattle.u4b.specs.declared.channel.FirstCharacters.{FirstCharacters}
use Rattle.telemetry.specs.Ranges.{temperature_in_range, in_ranges, first_out_of_range, range_checked, InRangeForSome}
use Rattle.telemetry.specs.declared.Measured.{Measured}

-- What is measured is in its ranges.
pub record InRange (taken : FirstCharacters) (m : Measured) : Type 0 where
  pub first : is_first_character taken m.channel.first ≡ true
  pub third : is_third_character m.channel.third ≡ true
  pub grid5 : (65 ≤ m.square.grid5) × (m.square.grid5 ≤ 88)
  pub grid6 : (65 ≤ m.square.grid6) × (m.square.grid6 ≤ 88)
  pub altitude : m.sensors.altitude ≤ 21_359
  pub temperature : temperature_in_range m.sensors.temperature ≡ true
  pub voltage : (3_000 ≤ m.sensors.voltage) × (m.sensors.voltage ≤ 4_999)
  pub speed : m.sensors.speed ≤ 839
  pub gps : m.sensors.gps ≤ 1

module _ (taken : FirstCharacters) (m : Measured) where
  pub in_range : 9 ≤ first_out_of_range taken m → InRange taken m
  unfolding in_ranges first_out_of_range AllPass
  in_range h =
      let s = m.sensors in
      let t = all_pass is_true 0 _ h in
      record {
        first = t.0;
        third = t.1.0;
        grid5 = between_range 65 88 m.square.grid5 t.1.1.0;
        grid6 = between_range 65 88 m.square.grid6 t.1.1.1.0;
        altitude = (between_range 0 21_359 s.altitude t.1.1.1.1.0).1;
        temperature = t.1.1.1.1.1.0;
        voltage = between_range 3_000 4_999 s.voltage t.1.1.1.1.1.1.0;
        speed = (between_range 0 839 s.speed t.1.1.1.1.1.1.1.0).1;
        gps = (between_range 0 1 s.gps t.1.1.1.1.1.1.1.1.0).1;
      }

  pub checked_found : (bad : ℕ) → first_out_of_range taken m ≡ bad → bad < 9 → range_checked taken m ≡ Err (Refusal.OutOfRange bad)
  unfolding range_checked
  checked_found bad e h = rw (e, lt-ltb bad 9 h)

  pub checked_none : 9 ≤ first_out_of_range taken m → range_checked taken m ≡ Ok m
  unfolding range_checked
  checked_none h = rw (le-ltb _ 9 h)

  pub first_out_of_range_end : first_out_of_range taken m ≤ 9
  unfolding in_ranges first_out_of_range
  first_out_of_range_end = first_failing_end is_true 0 (in_ranges taken m)

  pub none_out_of_range : InRange taken m → first_out_of_range taken m ≡ 9
  unfolding in_ranges first_out_of_range AllPass
  none_out_of_range r =
      let s = m.sensors in
      none_fails is_true 0 _ (
        r.first,
        (
          r.third,
          (
            between_true 65 88 m.square.grid5 r.grid5.0 r.grid5.1,
            (
              between_true 65 88 m.square.grid6 r.grid6.0 r.grid6.1,
              (
                between_true 0 21_359 s.altitude (omega arith) r.altitude,
                (
                  r.temperature,
                  (
                    between_true 3_000 4_999 s.voltage r.voltage.0 r.voltage.1,
                    (
                      between_true 0 839 s.speed (omega arith) r.speed,
                      (between_true 0 1 s.gps (omega arith) r.gps, tt),
                    ),
                  ),
                ),
              ),
            ),
          ),
        ),
      )

-- So it is for one of the choices of first characters.
pub in_range_for_some : {m : Measured} (some : InRangeForSome m) → InRange some.0 m
in_range_for_some some = in_range some.0 _ (omega (arith, some.1))
