-- A loop that replaces the elements of a list in place, from index 0 on: those before it are the new ones, those from it on still the old.
use mathlib.Core.Path.{◌≡◌, refl, ◌∙◌}
use Prim.Native.Nat.{ℕ, ◌+◌, ◌≤◌, ◌<◌}
use native.Mathlib.Omega.{arith}
use mathlib.Core.List.{List}
use lib.ListN.{length, get_or, set}
use lib.Seq.{get_or-set_other}
use Rattle.basics.proofs.Filling.{Filling, fill_starts, fill_turn}

pub record Replacing (target old now : List ℕ) (i : ℕ) : Type 0 where
  pub filled : Filling target now i
  pub rest : (k : ℕ) → i ≤ k → get_or now k 0 ≡ get_or old k 0

pub replace_starts : (target old : List ℕ) → length old ≡ length target → Replacing target old old 0
replace_starts target old e = record { filled = fill_starts target old e; rest = λ k h. refl }

pub replace_turn : (target old now : List ℕ) (i v : ℕ) → i < length target → v ≡ get_or target i 0 → Replacing target old now i
    → Replacing target old (set now i v) (i + 1)
replace_turn target old now i v h e r =
    record {
      filled = fill_turn 0 target now i v h e r.filled;
      rest = λ k above. get_or-set_other now i k v 0 (λ same. omega arith) ∙ r.rest k (omega arith);
    }
