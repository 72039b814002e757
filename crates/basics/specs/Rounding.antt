-- Values rounded to steps: how far what reads back is from what was measured.
use Rattle.std.specs.Prelude.{ℕ, ℤ, pos, ◌+ℤ◌, ◌-ℤ◌, ◌*ℤ◌, ◌≤ℤ◌, ◌<ℤ◌}

-- "never above the true one and less than one step below it"
pub record WithinStepBelow (step : ℕ) (measured back : ℤ) : Type 0 where
  pub not_above : back ≤ℤ measured
  pub within_step : measured <ℤ (back +ℤ pos step)

-- "rounded to the nearest step, halves up": at most half a step above, and less than half a step below.
pub record WithinHalfStep (step : ℕ) (measured back : ℤ) : Type 0 where
  pub not_far_above : (pos 2 *ℤ (back -ℤ measured)) ≤ℤ pos step
  pub not_far_below : (pos 2 *ℤ (measured -ℤ back)) <ℤ pos step
