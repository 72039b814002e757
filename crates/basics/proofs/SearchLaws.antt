-- A search for the first place where a test fails, as the library's `position` makes it; and what a search that may find nothing says.
use Rattle.std.proofs.Common.{◌≡◌, sym, ◌∙◌, arith, ℕ, zero, suc, ◌+◌, ◌<◌, ◌≤◌, Bool, not, ltb, Some, None, List, [], ◌∷◌, length, get_or}
use Rattle.std.specs.List.{position, position_or_len}
use Rattle.std.proofs.lemmas.Option.{none-some, cond_some}
use borrow.Author.Tests.{ltb-true, ltb-false, lt-ltb, le-ltb}
use native.Mathlib.Nat.{add-suc, add-zero, suc-add, zero-add}
use Rattle.basics.specs.Lists.{first_failing, some_below}
use Rattle.basics.proofs.Choice.{by_test}

-- The elements that are searched may be others than the tested ones, as the pairs of a `zip` are: at each index, the one is found where the
-- other fails.
module _ {A B : Type 0} (test : ℕ → A → Bool) (found : B → Bool) (a : A) (b : B) where
  -- From any start.
  pub position_or_len_first_failing : (start : ℕ) (xs : List A) (ys : List B) → length ys ≡ length xs
      → ((i : ℕ) → i < length xs → found (get_or ys i b) ≡ not (test (start + i) (get_or xs i a)))
      → first_failing test start xs ≡ start + position_or_len found ys
  unfolding first_failing
  position_or_len_first_failing start [] [] e h = sym (add-zero start)
  position_or_len_first_failing start [] (y ∷ ys) e h = absurd (omega arith)
  position_or_len_first_failing start (x ∷ xs) [] e h = absurd (omega arith)
  position_or_len_first_failing start (x ∷ xs) (y ∷ ys) e h =
      let here : found y ≡ not (test start x) = rw (add-zero start) at (h zero (omega arith)) in
      let rest : first_failing test (suc start) xs ≡ suc start + position_or_len found ys =
      position_or_len_first_failing (suc start) xs ys (omega arith) (λ i k. rw (suc-add start i, ← add-suc start i) (h (suc i) (omega arith))) in
      by_test (test start x)
      (λ passes. rw (here, passes) (rest ∙ omega arith))
      (λ fails. rw (here, fails) (sym (add-zero start)))

  pub position_first_failing : (xs : List A) (ys : List B) → length ys ≡ length xs
      → ((i : ℕ) → i < length xs → found (get_or ys i b) ≡ not (test i (get_or xs i a)))
      → position found ys ≡ some_below (length xs) (first_failing test 0 xs)
  unfolding some_below
  position_first_failing xs ys e h =
      let same : first_failing test 0 xs ≡ position_or_len found ys =
      position_or_len_first_failing 0 xs ys e (λ i k. rw (zero-add i) (h i k)) ∙ zero-add _ in
      rw (same, e)

-- What a search gives that may find nothing says where the place lies.
module _ (end place : ℕ) where
  pub some_below_found : (found : ℕ) → some_below end place ≡ Some found → (place ≡ found) × (found < end)
  unfolding some_below
  some_below_found found e =
      let its = cond_some (ltb place end) place found e in
      (its.1, rw its.1 at (ltb-true place end its.0))

  pub some_below_none : some_below end place ≡ None → end ≤ place
  unfolding some_below
  some_below_none e =
      by_test (ltb place end)
      (λ below. absurd (none-some place (sym e ∙ rw below)))
      (λ above. ltb-false place end above)

  pub some_below_at : (found : ℕ) → place ≡ found → found < end → some_below end place ≡ Some found
  unfolding some_below
  some_below_at found e below = rw (e, lt-ltb found end below)

  pub some_below_past : end ≤ place → some_below end place ≡ None
  unfolding some_below
  some_below_past past = rw (le-ltb place end past)
