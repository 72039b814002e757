-- A loop that puts values at the places that a table has for them, one after the other.
use mathlib.Core.Path.{◌≡◌, sym, ap, ◌∙◌}
use Prim.Native.Nat.{ℕ, ◌+◌, ◌≤◌, ◌<◌}
use native.Mathlib.Omega.{arith}
use mathlib.Core.List.{List}
use lib.ListN.{length, get_or, set, length-set}
use lib.Seq.{get_or-set_same, get_or-set_other}
use Rattle.basics.proofs.Choice.{equal_or_not}
use Rattle.interleaver.specs.Places.{TakenBack}

-- Before a turn: the values so far are at their places.
pub record Placing (there : List ℕ) (values : ℕ → ℕ) (now : List ℕ) (i : ℕ) : Type 0 where
  pub same : length now ≡ 162
  pub done : (k : ℕ) → k < i → get_or now (get_or there k 0) 0 ≡ values k

pub placing_starts : (there : List ℕ) (values : ℕ → ℕ) (now : List ℕ) → length now ≡ 162 → Placing there values now 0
placing_starts there values now e = record { same = e; done = λ k h. absurd (omega arith) }

-- No other value has this place, so that those before it stay.
pub placing_turn : (there back : List ℕ) → TakenBack there back → (values : ℕ → ℕ) (now : List ℕ) (i value : ℕ) → i < 162 → value ≡ values i
    → Placing there values now i → Placing there values (set now (get_or there i 0) value) (i + 1)
placing_turn there back taken values now i value h e turn =
    record {
      same = length-set now (get_or there i 0) value ∙ turn.same;
      done =
          λ k below.
          equal_or_not k i
          (λ here. rw (here, ← e) (get_or-set_same now (get_or there i 0) value 0 (omega (arith, turn.same, (taken i h).0))))
          (λ other.
          get_or-set_other now (get_or there i 0) (get_or there k 0) value 0
          (λ same. other (sym (taken k (omega arith)).1 ∙ ap (λ (p : ℕ). get_or back p 0) same ∙ (taken i h).1))
          ∙ turn.done k (omega arith));
    }

-- Every place is some value's.
pub placing_ends : (there back : List ℕ) → TakenBack back there → (values : ℕ → ℕ) (now : List ℕ) (i : ℕ) → 162 ≤ i → Placing there values now i
    → (place : ℕ) → place < 162 → get_or now place 0 ≡ values (get_or back place 0)
placing_ends there back taken values now i h turn place below =
    ap (λ (p : ℕ). get_or now p 0) (sym (taken place below).1) ∙ turn.done (get_or back place 0) (omega (arith, (taken place below).0))
