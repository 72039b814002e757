-- The tree of live prefixes along the counts that are kept of the encoder's states, which a checker can compute.
use mathlib.Core.Path.{◌≡◌, refl, ap, ap₂, ◌∙◌}
use Prim.Native.Nat.{ℕ, zero, suc, ◌+◌, ◌-◌, ◌*◌, ◌/◌, ◌%◌, ◌^◌, ◌≤◌, ◌<◌}
use native.Mathlib.Omega.{arith}
use mathlib.Core.List.{List, [], ◌∷◌}
use lib.ListN.{length, drop}
use borrow.Author.Tests.{le-leb, lt-leb}
use Rattle.basics.proofs.Choice.{below_or_not, equal_or_not}
use Rattle.convolution.specs.Code.{clocked}
use Rattle.distance.specs.Prefixes.{unlike, differences, live_count}
use Rattle.distance.specs.Steps.{step_cost}
use Rattle.distance.proofs.Bits.{AllBits, alike, not_alike}
use Rattle.distance.proofs.StepLaws.{step_others}
use Rattle.distance.proofs.Tree.{step, step_live, step_dead, tree, live_count_tree}
use Rattle.trellis.proofs.States.{clocked_state, next_state}
use Rattle.trellis.proofs.Onward.{onward_counts, onward_response}
use Rattle.trellis.proofs.OnwardLaws.{onward_running, onward_first_coded, onward_second_coded}

-- ---- Computed

-- None where nothing is left of a limit; else one prefix, and what is counted beyond it with one less.
unfoldable pub beyond : ℕ → (ℕ → ℕ) → ℕ
beyond zero count = 0
beyond (suc left) count = 1 + count left

-- The disagreements that a 0 adds, by the counts and the next two received bits. A 1 adds what is left of 2.
abbrev counted_cost : ℕ → ℕ → ℕ → ℕ
counted_cost counts x y = (counts + x) % 2 + (counts / 64 + y) % 2

-- How many prefixes that are 1 to n bits longer are live, where the next `free` bits may be 0 or 1 and the others are 0.
unfoldable pub counted_tree : ℕ → ℕ → ℕ → ℕ → List ℕ → ℕ → ℕ
counted_tree response zero free counts received limit = 0
counted_tree response (suc n) free counts [] limit = 0
counted_tree response (suc n) free counts (x ∷ []) limit = 0
counted_tree response (suc n) zero counts (x ∷ y ∷ received) limit =
    beyond (suc limit - counted_cost counts x y) (counted_tree response n zero (counts / 4_096) received)
counted_tree response (suc n) (suc free) counts (x ∷ y ∷ received) limit =
    let cost = counted_cost counts x y in
    let later = counts / 4_096 in
    beyond (suc limit - cost) (counted_tree response n free later received)
    + beyond (limit + cost - 1) (counted_tree response n free (later + response) received)

-- ---- One step

unlike_sum : (m x : ℕ) → x < 2 → unlike ((0 + m) % 2) x ≡ (m + x) % 2
unlike_sum m x h =
    equal_or_not ((0 + m) % 2) x
    (λ same. alike ((0 + m) % 2) x same ∙ omega arith)
    (λ other. not_alike ((0 + m) % 2) x other ∙ omega arith)

-- The counts of the state that a register holds.
abbrev counts_of : ℕ → ℕ
counts_of register = onward_counts (register % 2 ^ 31)

module _ (register : ℕ) where
  zero_counted : counts_of (clocked register 0) ≡ counts_of register / 4_096
  zero_counted = ap onward_counts (next_state register 0 (omega arith)) ∙ onward_running.zero_next (register % 2 ^ 31) (omega arith)

  one_counted : counts_of (clocked register 1) ≡ counts_of register / 4_096 + onward_response
  one_counted = ap onward_counts (next_state register 1 (omega arith)) ∙ onward_running.one_next (register % 2 ^ 31) (omega arith)

  cost_counted : (x y : ℕ) (received : List ℕ) → x < 2 → y < 2
      → step_cost (x ∷ y ∷ received) (clocked register 0) ≡ counted_cost (counts_of register) x y
  unfolding step_cost differences
  cost_counted x y received h k =
      let state = register % 2 ^ 31 in
      let counts = counts_of register in
      let first = onward_first_coded state (omega arith) 0 (omega arith) in
      let second = onward_second_coded state (omega arith) 0 (omega arith) in
      rw (clocked_state register 0 (omega arith), first, second)
      (omega (arith, unlike_sum counts x h, unlike_sum (counts / 64) y k))

  -- What is counted from a bit on, where so much of the limit and one more is left after it.
  step_beyond : (received : List ℕ) (limit bit left : ℕ) (after : ℕ → List ℕ → ℕ → ℕ) (count : ℕ → ℕ)
      → left ≡ suc limit - step_cost received (clocked register bit)
      → ((l : ℕ) → after (clocked register bit) (drop 2 received) l ≡ count l)
      → step (λ r e l. 1 + after r e l) register received limit bit ≡ beyond left count
  unfolding beyond
  step_beyond received limit bit left after count e same =
      let cost = step_cost received (clocked register bit) in
      let counted : ℕ → List ℕ → ℕ → ℕ = λ r e l. 1 + after r e l in
      below_or_not limit cost
      (λ over.
      let none : left ≡ 0 = omega arith in
      step_dead register received limit bit counted (lt-leb cost limit over) ∙ rw none)
      (λ within.
      let rest : left ≡ suc (limit - cost) = omega arith in
      step_live register received limit bit counted (le-leb cost limit within) ∙ rw (rest, same (limit - cost)))

-- ---- The tree

tree_counted : (n free register : ℕ) (received : List ℕ) (limit : ℕ) → AllBits received → 2 * n ≤ length received
    → tree n free register received limit ≡ counted_tree onward_response n free (counts_of register) received limit
unfolding tree counted_tree AllBits
tree_counted zero free register received limit are_bits long = refl
tree_counted (suc n) free register [] limit are_bits long = absurd (omega arith)
tree_counted (suc n) free register (x ∷ []) limit are_bits long = absurd (omega arith)
tree_counted (suc n) zero register (x ∷ y ∷ received) limit (h, (k, are_bits)) long =
    let cost = cost_counted register x y received h k in
    step_beyond register (x ∷ y ∷ received) limit 0 _ (tree n zero) (counted_tree onward_response n zero (counts_of register / 4_096) received)
    (omega (arith, cost))
    (λ l. rw (← zero_counted register) (tree_counted n zero (clocked register 0) received l are_bits (omega arith)))
tree_counted (suc n) (suc free) register (x ∷ y ∷ received) limit (h, (k, are_bits)) long =
    let cost = cost_counted register x y received h k in
    let others = step_others (x ∷ y ∷ received) register (omega arith) (h, (k, are_bits)) in
    ap₂ (λ (a b : ℕ). a + b)
    (step_beyond register (x ∷ y ∷ received) limit 0 _ (tree n free) (counted_tree onward_response n free (counts_of register / 4_096) received)
    (omega (arith, cost))
    (λ l. rw (← zero_counted register) (tree_counted n free (clocked register 0) received l are_bits (omega arith))))
    (step_beyond register (x ∷ y ∷ received) limit 1 _ (tree n free)
    (counted_tree onward_response n free (counts_of register / 4_096 + onward_response) received)
    (omega (arith, cost, others))
    (λ l. rw (← one_counted register) (tree_counted n free (clocked register 1) received l are_bits (omega arith))))

-- The live count is the sum over it.
pub live_count_counted : (received : List ℕ) (limit : ℕ) → AllBits received → length received ≡ 162
    → live_count received limit ≡ counted_tree onward_response 81 50 0 received limit
live_count_counted received limit are_bits long =
    live_count_tree received limit
    ∙ tree_counted 81 50 0 received limit are_bits (omega arith)
    ∙ ap (λ (c : ℕ). counted_tree onward_response 81 50 c received limit) onward_running.none_yet
