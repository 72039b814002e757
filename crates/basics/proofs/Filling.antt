-- A loop that fills a list from index 0 on: before each turn its first i elements are those that it shall hold.
use mathlib.Core.Path.{◌≡◌, refl, sym, ◌∙◌}
use Prim.Native.Nat.{ℕ, ◌+◌, ◌≤◌, ◌<◌}
use native.Mathlib.Numerals.{add-one}
use native.Mathlib.Omega.{arith}
use mathlib.Core.List.{List}
use lib.ListN.{length, get_or, take, set, length-set}
use lib.Seq.{take-suc, take-suc-set, take_all}

pub record Filling {A : Type 0} (target now : List A) (i : ℕ) : Type 0 where
  pub within : i ≤ length target
  pub same : length now ≡ length target
  pub done : take i now ≡ take i target

pub fill_starts : {A : Type 0} (target now : List A) → length now ≡ length target → Filling target now 0
fill_starts target now e = record { within = omega arith; same = e; done = refl }

pub fill_turn : {A : Type 0} (d : A) (target now : List A) (i : ℕ) (v : A) → i < length target → v ≡ get_or target i d → Filling target now i
    → Filling target (set now i v) (i + 1)
fill_turn d target now i v h e f =
    let room : i < length now = omega (arith, f.same) in
    record {
      within = omega arith;
      same = length-set now i v ∙ f.same;
      done = rw (add-one, take-suc-set now i v room, take-suc target i d h, f.done, e);
    }

pub fill_ends : {A : Type 0} (target now : List A) (i : ℕ) → length target ≤ i → Filling target now i → now ≡ target
fill_ends target now i h f =
    sym (take_all i now (omega (arith, f.same))) ∙ f.done ∙ take_all i target h
