-- The codes of what is measured, and the readings back (01, 'Telemetry'; 02, L2).
use Rattle.std.specs.Prelude.{ℕ, ◌+◌, ◌-◌, ◌*◌, ◌/◌, ◌%◌, ℤ, pos, nat_abs, ◌+ℤ◌}
use Rattle.std.proofs.Math.IntN.{sub_ℕ}
use Rattle.std.specs.Int.Signed.{shr_z}

-- ---- Codes

-- "code is metres divided by 20, rounded down"
unfoldable pub altitude_code : ℕ → ℕ
altitude_code altitude = altitude / 20

-- "Tenths are to be rounded down, as the other three readings are: -5 tenths becomes -1 degree, code 49." `shr_z` divides and rounds down,
-- below zero too. In the range the sum is 0 to 89, so that it is its own absolute value.
unfoldable pub temperature_code : ℤ → ℕ
temperature_code tenths = nat_abs (shr_z tenths 10 +ℤ pos 50)

-- "(mV - 2,000) divided by 50, rounded down, modulo 40". In the range the difference doesn't fall below 0.
unfoldable pub voltage_code : ℕ → ℕ
voltage_code voltage = (voltage - 2_000) / 50 % 40

-- "divided by 20, rounded down"
unfoldable pub speed_code : ℕ → ℕ
speed_code tenths = tenths / 20

-- ---- "Back: 20·code m; code - 50 degrees; 3,000 + 50·((code + 20) modulo 40) mV; 2·code knots."

unfoldable pub metres : ℕ → ℕ
metres code = 20 * code

unfoldable pub degrees : ℕ → ℤ
degrees code = sub_ℕ code 50

unfoldable pub millivolts : ℕ → ℕ
millivolts code = 3_000 + 50 * ((code + 20) % 40)

unfoldable pub knots : ℕ → ℕ
knots code = 2 * code
