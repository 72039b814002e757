-- `telemetry::codes::degrees_of` meets its contract: the code is read as the same signed number, and its difference to 50 fits.
-- Assumes nothing.
use mathlib.Core.Path.{◌≡◌}
use Prim.Native.Nat.{ℕ, ◌≤◌}
use native.Mathlib.Omega.{arith}
use lib.IntN.{pos, ◌-ℤ◌}
use mir.Facts.{to_z-of_z, to_z_pos}
use mir.Syntax.{w32}
use mir.Val.{to_z}
use Rattle.telemetry.specs.Codes.{degrees}
use Rattle.telemetry.proofs.CodeLaws.{degrees_fits}
use Rattle.telemetry.proofs.codes.degrees_of.Goals as goal

difference : (code : ℕ) → code ≤ 89 → to_z w32 code -ℤ pos 50 ≡ degrees code
unfolding degrees
difference code h = rw (to_z_pos w32 {n = code} (omega arith))

pub returns : goal.returns
returns c = rw (difference c.args.code c.requires) (to_z-of_z (degrees_fits c.args.code (omega (arith, c.requires))))
