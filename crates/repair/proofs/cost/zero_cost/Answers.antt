-- `repair::cost::zero_cost` meets its contract: the cost of the step after a 0.
-- Assumes nothing.
use mathlib.Core.Path.{◌∙◌}
use Rattle.distance.specs.Steps.{zero_cost}
use Rattle.repair.proofs.cost.zero_cost.Goals as goal

pub returns : goal.returns
unfolding zero_cost
returns c = c.step_cost.ensures ∙ rw (c.clock.ensures, c.register.ensures)
