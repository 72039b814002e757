-- What repair refuses before it searches: 1, 15 and 7, each exactly when it applies and none before it does.
use mathlib.Core.Path.{◌≡◌, ap, ◌∙◌}
use mathlib.Core.Logic.{◌⊎◌, inl, inr}
use Prim.Native.Nat.{ℕ, ◌≤◌, ◌<◌}
use native.Mathlib.Omega.{arith}
use mathlib.Core.List.{List}
use lib.ListN.{length}
use borrow.Author.Tests.{eq-eqb, ne_eqb, lt-ltb, le-ltb, leb-true, leb-false}
use Rattle.std.specs.Prelude.{Result, Err}
use Rattle.basics.proofs.Choice.{below_or_not, equal_or_not}
use Rattle.basics.proofs.ListLaws.{fails_at, passes_before_first}
use Rattle.refusal.specs.declared.Refusal.{Refusal}
use Rattle.refusal.specs.Refusals.{refusal_number}
use Rattle.frame.specs.Symbols.{RightSymbols}
use Rattle.frame.specs.Answer.{is_symbol, first_large}
use Rattle.frame.proofs.SymbolLaws.{symbols_of_test}
use Rattle.repair.specs.Answer.{first_bad_bound, searched, frame_repaired}
use Rattle.repair.specs.Demand.{Bounds, FirstLargeAt, AsChecked}
use Rattle.repair.specs.declared.Nearest.{Nearest}
use Rattle.repair.proofs.AnswerLaws.{OfSearch, of_search, repaired_searched}
use Rattle.repair.proofs.BoundLaws.{bad_limit_first, bad_budget_next, no_bad_bound}

-- ---- The first symbol above 3

module _ (frame : List ℕ) where
  is_first_large : first_large frame < length frame → FirstLargeAt frame (first_large frame)
  unfolding first_large
  is_first_large h =
      record {
        within = h;
        large = leb-false _ _ (fails_at is_symbol 0 frame h);
        none_before = λ earlier k. leb-true _ _ (passes_before_first is_symbol 0 frame h earlier k);
      }

  -- There is one such place only.
  only_first : (p q : ℕ) → FirstLargeAt frame p → FirstLargeAt frame q → p ≡ q
  only_first p q a b =
      below_or_not p q
      (λ less. absurd (omega (arith, a.large, b.none_before p less)))
      (λ no_less. below_or_not q p (λ less. absurd (omega (arith, b.large, a.none_before q less))) (λ same. omega arith))

-- ---- The cases

module _ (frame : List ℕ) (limit budget : ℕ) where
  abbrev BadBudget : Type 0
  BadBudget = (limit ≤ 12) × ((budget ≡ 0) ⊎ (65_536 < budget))

  pub repaired_length : (length frame ≡ 162 → ⊥) → frame_repaired frame limit budget ≡ Err Refusal.WrongLength
  unfolding frame_repaired
  repaired_length other = rw (ne_eqb (length frame) 162 other)

  module _ (long : length frame ≡ 162) where
    pub repaired_bound : (place : ℕ) → first_bad_bound limit budget ≡ place → place < 2
        → frame_repaired frame limit budget ≡ Err (Refusal.BadBound place)
    unfolding frame_repaired
    repaired_bound place e bad = rw (eq-eqb (length frame) 162 long, e, lt-ltb place 2 bad)

    pub repaired_large : 2 ≤ first_bad_bound limit budget → first_large frame < 162
        → frame_repaired frame limit budget ≡ Err (Refusal.SymbolTooLarge (first_large frame))
    unfolding frame_repaired
    repaired_large good large =
        rw (eq-eqb (length frame) 162 long, le-ltb (first_bad_bound limit budget) 2 good, lt-ltb (first_large frame) 162 large)

  -- What holds of the answer in each case holds of it.
  by_check : (P : Result Nearest Refusal → Type 0)
      → ((length frame ≡ 162 → ⊥) → P (Err Refusal.WrongLength))
      → (length frame ≡ 162 → 12 < limit → P (Err (Refusal.BadBound 0)))
      → (length frame ≡ 162 → BadBudget → P (Err (Refusal.BadBound 1)))
      → (length frame ≡ 162 → Bounds limit budget → FirstLargeAt frame (first_large frame) → P (Err (Refusal.SymbolTooLarge (first_large frame))))
      → (RightSymbols frame → Bounds limit budget → P (searched frame limit budget))
      → P (frame_repaired frame limit budget)
  by_check P short limit_bad budget_bad large right =
      equal_or_not (length frame) 162
      (λ long.
      below_or_not 12 limit
      (λ more. at_bound long 0 (bad_limit_first limit budget more) (omega arith) (limit_bad long more))
      (λ limit-good.
      below_or_not budget 1
      (λ none. bad_budget long (limit-good, inl (omega arith)))
      (λ some. below_or_not 65_536 budget (λ more. bad_budget long (limit-good, inr more)) (λ budget-good. checked_bounds long (bounded limit-good some budget-good)))))
      (λ other. rw (repaired_length other) (short other))
    where
      at_bound : length frame ≡ 162 → (place : ℕ) → first_bad_bound limit budget ≡ place → place < 2 → P (Err (Refusal.BadBound place))
          → P (frame_repaired frame limit budget)
      at_bound long place e h p = rw (repaired_bound long place e h) p

      bad_budget : length frame ≡ 162 → BadBudget → P (frame_repaired frame limit budget)
      bad_budget long bad = at_bound long 1 (bad_budget_next limit budget bad.0 bad.1) (omega arith) (budget_bad long bad)

      bounded : limit ≤ 12 → 1 ≤ budget → budget ≤ 65_536 → Bounds limit budget
      bounded h k l = record { limit_to_12 = h; budget_from_1 = k; budget_to_65536 = l }

      checked_bounds : length frame ≡ 162 → Bounds limit budget → P (frame_repaired frame limit budget)
      checked_bounds long bounds =
          below_or_not (first_large frame) 162
          (λ is-large.
          let good : 2 ≤ first_bad_bound limit budget = omega (arith, no_bad_bound limit budget bounds) in
          rw (repaired_large long good is-large) (large long bounds (is_first_large frame (rw long is-large))))
          (λ all_small.
          let symbols = symbols_of_test frame long all_small in
          rw (repaired_searched frame limit budget symbols bounds) (right symbols bounds))

  -- ---- Each exactly when it applies

  not_searched : {Q : Type 0} (f : Refusal) → refusal_number f < 16 → searched frame limit budget ≡ Err f → Q
  not_searched f h e = absurd (omega (arith, rw e at (of_search frame limit budget)))

  length_told : frame_repaired frame limit budget ≡ Err Refusal.WrongLength → length frame ≡ 162 → ⊥
  length_told =
      by_check (λ a. a ≡ Err Refusal.WrongLength → length frame ≡ 162 → ⊥)
      (λ other e. other)
      (λ long more e. absurd cc)
      (λ long bad e. absurd cc)
      (λ long bounds first e. absurd cc)
      (λ right bounds. not_searched _ (omega arith))

  limit_told : frame_repaired frame limit budget ≡ Err (Refusal.BadBound 0) → (length frame ≡ 162) × (12 < limit)
  limit_told =
      by_check (λ a. a ≡ Err (Refusal.BadBound 0) → (length frame ≡ 162) × (12 < limit))
      (λ other e. absurd cc)
      (λ long more e. (long, more))
      (λ long bad e. absurd cc)
      (λ long bounds first e. absurd cc)
      (λ right bounds. not_searched _ (omega arith))

  budget_told : frame_repaired frame limit budget ≡ Err (Refusal.BadBound 1) → (length frame ≡ 162) × BadBudget
  budget_told =
      by_check (λ a. a ≡ Err (Refusal.BadBound 1) → (length frame ≡ 162) × BadBudget)
      (λ other e. absurd cc)
      (λ long more e. absurd cc)
      (λ long bad e. (long, bad))
      (λ long bounds first e. absurd cc)
      (λ right bounds. not_searched _ (omega arith))

  symbol_told : (place : ℕ) → frame_repaired frame limit budget ≡ Err (Refusal.SymbolTooLarge place)
      → (length frame ≡ 162) × (Bounds limit budget × FirstLargeAt frame place)
  symbol_told place =
      by_check (λ a. a ≡ Err (Refusal.SymbolTooLarge place) → (length frame ≡ 162) × (Bounds limit budget × FirstLargeAt frame place))
      (λ other e. absurd cc)
      (λ long more e. absurd cc)
      (λ long bad e. absurd cc)
      (λ long bounds first e.
      let same : first_large frame ≡ place = cc in
      (long, (bounds, rw same at first)))
      (λ right bounds. not_searched _ (omega arith))

  symbol_refused : (place : ℕ) → (length frame ≡ 162) × (Bounds limit budget × FirstLargeAt frame place)
      → frame_repaired frame limit budget ≡ Err (Refusal.SymbolTooLarge place)
  symbol_refused place (long, (bounds, first)) =
      below_or_not (first_large frame) 162
      (λ large.
      let same = only_first frame (first_large frame) place (is_first_large frame (rw long large)) first in
      repaired_large long (omega (arith, no_bad_bound limit budget bounds)) large
      ∙ ap (λ (p : ℕ). Err (Refusal.SymbolTooLarge p)) same)
      (λ none. absurd (omega (arith, (symbols_of_test frame long none).symbols_to_3 place (omega (arith, first.within)), first.large)))

  -- What only a search gives is given only where symbols, limit and budget are as they should be.
  pub right_searched : OfSearch (frame_repaired frame limit budget) → RightSymbols frame × Bounds limit budget
  right_searched =
      by_check (λ a. OfSearch a → RightSymbols frame × Bounds limit budget)
      (λ other late. absurd (omega arith))
      (λ long more late. absurd (omega arith))
      (λ long bad late. absurd (omega arith))
      (λ long bounds first late. absurd (omega arith))
      (λ right bounds late. (right, bounds))

  pub checked : AsChecked frame limit budget (frame_repaired frame limit budget)
  checked =
      record {
        when_wrong_length = (length_told, repaired_length);
        bad_limit = (limit_told, λ q. repaired_bound q.0 0 (bad_limit_first limit budget q.1) (omega arith));
        bad_budget = (budget_told, λ q. repaired_bound q.0 1 (bad_budget_next limit budget q.1.0 q.1.1) (omega arith));
        large_symbol = λ place. (symbol_told place, symbol_refused place);
      }
