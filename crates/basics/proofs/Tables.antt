-- A rule of every entry of a table, by one test that antt computes.
use mathlib.Core.Path.{◌≡◌}
use Prim.Native.Nat.{ℕ, zero, suc, ◌<◌}
use native.Mathlib.Nat.{not-suc-le-zero}
use native.Mathlib.Omega.{arith}
use mathlib.Core.Bool.{Bool, true, ◌&&◌}
use mathlib.Core.List.{List, [], ◌∷◌}
use lib.ListN.{get_or}
use Rattle.basics.proofs.Choice.{both_true, equal_or_not}

module _ {A : Type 0} (rule : A → Bool) where
  -- The rule holds of every entry.
  abbrev pub every : List A → Bool
  every [] = true
  every (x ∷ xs) = rule x && every xs

  -- A rule of every entry and of the default holds of what stands at any index.
  pub every_at : (xs : List A) (d : A) → every xs ≡ true → rule d ≡ true → (i : ℕ) → rule (get_or xs i d) ≡ true
  every_at [] d e k i = k
  every_at (x ∷ xs) d e k zero = (both_true (rule x) (every xs) e).0
  every_at (x ∷ xs) d e k (suc i) = every_at xs d (both_true (rule x) (every xs) e).1 k i

module _ (rule : ℕ → Bool) where
  -- The rule holds of every number below n.
  abbrev pub every_below : ℕ → Bool
  every_below zero = true
  every_below (suc n) = rule n && every_below n

  pub below_at : (n : ℕ) → every_below n ≡ true → (i : ℕ) → i < n → rule i ≡ true
  below_at zero e i h = absurd (not-suc-le-zero h)
  below_at (suc n) e i h =
      equal_or_not i n
      (λ same. rw same (both_true (rule n) (every_below n) e).0)
      (λ other. below_at n (both_true (rule n) (every_below n) e).1 i (omega arith))
