-- The limit and the budget: which is the first that is out of its bounds.
use mathlib.Core.Path.{◌≡◌}
use mathlib.Core.Logic.{◌⊎◌, inl, inr, ⊎_elim}
use Prim.Native.Nat.{ℕ, ◌≤◌, ◌<◌}
use native.Mathlib.Omega.{arith}
use borrow.Author.Tests.{le-leb, lt-leb}
use Rattle.basics.specs.Lists.{first_failing}
use Rattle.basics.proofs.Choice.{between_true, between_below, between_above, below_or_not}
use Rattle.repair.specs.Answer.{first_bad_bound}
use Rattle.repair.specs.Demand.{Bounds}

module _ (limit budget : ℕ) where
  pub bad_limit_first : 12 < limit → first_bad_bound limit budget ≡ 0
  unfolding first_bad_bound first_failing
  bad_limit_first h = rw (lt-leb limit 12 h)

  pub bad_budget_next : limit ≤ 12 → (budget ≡ 0) ⊎ (65_536 < budget) → first_bad_bound limit budget ≡ 1
  unfolding first_bad_bound first_failing
  bad_budget_next h =
      ⊎_elim
      (λ none. rw (le-leb limit 12 h, between_below 1 65_536 budget (omega arith)))
      (λ more. rw (le-leb limit 12 h, between_above 1 65_536 budget (omega arith) more))

  pub no_bad_bound : Bounds limit budget → first_bad_bound limit budget ≡ 2
  unfolding first_bad_bound first_failing
  no_bad_bound bounds =
      let limit_right = le-leb limit 12 (omega (arith, bounds.limit_to_12)) in
      let budget_right = between_true 1 65_536 budget (omega (arith, bounds.budget_from_1)) (omega (arith, bounds.budget_to_65536)) in
      rw (limit_right, budget_right)

  -- None is bad only within the bounds.
  pub good_bounds : 2 ≤ first_bad_bound limit budget → Bounds limit budget
  good_bounds none =
      record {
        limit_to_12 = below_or_not 12 limit (λ more. absurd (omega (arith, bad_limit_first more))) (λ h. omega arith);
        budget_from_1 = below_or_not budget 1 (λ less. absurd (bad (inl (omega arith)))) (λ h. omega arith);
        budget_to_65536 = below_or_not 65_536 budget (λ more. absurd (bad (inr more))) (λ h. omega arith);
      }
    where
      bad : (budget ≡ 0) ⊎ (65_536 < budget) → ⊥
      bad out = below_or_not 12 limit (λ more. omega (arith, bad_limit_first more)) (λ h. omega (arith, bad_budget_next h out))
