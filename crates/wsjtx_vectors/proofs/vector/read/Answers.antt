-- `wsjtx_vectors::vector::read` meets its contract: two digits write a power that fits.
-- Assumes nothing.
use mathlib.Core.Path.{sym, ◌∙◌}
use native.Mathlib.Omega.{arith}
use Rattle.wsjtx_vectors.proofs.VectorLaws.{power_below}
use Rattle.wsjtx_vectors.proofs.vector.read.Goals as goal

pub overflow_cast-result : goal.overflow_cast-result
overflow_cast-result c = omega (arith, power_below c.field.result.now c.in_ok-power.power (sym c.read_power.ensures ∙ c.in_ok-power.was))
