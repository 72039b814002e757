-- The live count as a sum over a tree: each prefix has the longer ones below it, and below one that isn't live nothing is counted, as
-- disagreements only grow.
use mathlib.Core.Path.{◌≡◌, refl, sym, ap, ap₂, ◌∙◌}
use Prim.Native.Nat.{ℕ, zero, suc, ◌+◌, ◌-◌, ◌≤◌, min}
use native.Mathlib.Numerals.{add-one}
use native.Mathlib.Omega.{arith}
use mathlib.Core.Bool.{true, false, cond}
use mathlib.Core.List.{List, [], ◌∷◌, ◌++◌}
use lib.Dec.{leb}
use lib.ListN.{drop, replicate}
use borrow.Author.Tests.{le-leb, lt-leb, leb-true, leb-false}
use Rattle.basics.specs.Below.{sum_below}
use Rattle.basics.proofs.BelowLaws.{sum_same, sum_zero, sum_plus, sum_first}
use Rattle.basics.proofs.Choice.{by_test, below_or_not}
use Rattle.convolution.specs.Code.{clocked, first_mask, second_mask, parity, coded_from}
use Rattle.distance.specs.Prefixes.{free_of, prefix_bits, prefixes_of, differences, disagreements, is_live, live_of, live_count}
use Rattle.distance.specs.Steps.{step_cost}
use Rattle.distance.proofs.Bits.{differences_append}
use Rattle.distance.proofs.BitCounts.{count_bit_lists, count_bit_lists_same, count_by_bits}

-- ---- One step

-- What is counted from a bit on, given what is counted after it: nothing where its prefix isn't live.
unfoldable pub step : (ℕ → List ℕ → ℕ → ℕ) → ℕ → List ℕ → ℕ → ℕ → ℕ
step after register received limit bit =
    let next = clocked register bit in
    let cost = step_cost received next in
    cond (leb cost limit) (after next (drop 2 received) (limit - cost)) 0

-- ---- The tree

-- How many prefixes that are k bits longer are live, where the next `free` bits may be 0 or 1 and the others are 0.
unfoldable level : ℕ → ℕ → ℕ → List ℕ → ℕ → ℕ
level zero free register received limit = 1
level (suc k) zero register received limit = step (level k zero) register received limit 0
level (suc k) (suc free) register received limit =
    step (level k free) register received limit 0 + step (level k free) register received limit 1

-- How many prefixes that are 1 to n bits longer are live.
unfoldable pub tree : ℕ → ℕ → ℕ → List ℕ → ℕ → ℕ
tree zero free register received limit = 0
tree (suc n) zero register received limit = step (λ r e l. 1 + tree n zero r e l) register received limit 0
tree (suc n) (suc free) register received limit =
    step (λ r e l. 1 + tree n free r e l) register received limit 0 + step (λ r e l. 1 + tree n free r e l) register received limit 1

-- ---- The laws of a step

module _ (register : ℕ) (received : List ℕ) (limit bit : ℕ) where
  abbrev next : ℕ
  next = clocked register bit

  abbrev cost : ℕ
  cost = step_cost received next

  pub step_live : (after : ℕ → List ℕ → ℕ → ℕ) → leb cost limit ≡ true → step after register received limit bit ≡ after next (drop 2 received) (limit - cost)
  unfolding step
  step_live after e = rw e

  pub step_dead : (after : ℕ → List ℕ → ℕ → ℕ) → leb cost limit ≡ false → step after register received limit bit ≡ 0
  unfolding step
  step_dead after e = rw e

  step_same : (f g : ℕ → List ℕ → ℕ → ℕ) → ((r : ℕ) (e : List ℕ) (l : ℕ) → f r e l ≡ g r e l)
      → step f register received limit bit ≡ step g register received limit bit
  step_same f g h =
      by_test (leb cost limit)
      (λ live. step_live f live ∙ h next (drop 2 received) (limit - cost) ∙ sym (step_live g live))
      (λ dead. step_dead f dead ∙ sym (step_dead g dead))

  -- A sum of steps is a step to the sum.
  step_sum : (n : ℕ) (f : ℕ → ℕ → List ℕ → ℕ → ℕ)
      → sum_below n (λ i. step (f i) register received limit bit) ≡ step (λ r e l. sum_below n (λ i. f i r e l)) register received limit bit
  step_sum n f =
      by_test (leb cost limit)
      (λ live.
      sum_same n (λ i. step (f i) register received limit bit) (λ i. f i next (drop 2 received) (limit - cost)) (λ i h. step_live (f i) live)
      ∙ sym (step_live (λ r e l. sum_below n (λ i. f i r e l)) live))
      (λ dead.
      sum_same n (λ i. step (f i) register received limit bit) (λ i. 0) (λ i h. step_dead (f i) dead)
      ∙ sum_zero n ∙ sym (step_dead (λ r e l. sum_below n (λ i. f i r e l)) dead))

-- ---- All levels together

-- One step, then none or more.
sum_step : (n free : ℕ)
    → ((r : ℕ) (e : List ℕ) (l : ℕ) → sum_below n (λ i. level (suc i) free r e l) ≡ tree n free r e l)
    → (register : ℕ) (received : List ℕ) (limit bit : ℕ)
    → sum_below (suc n) (λ i. step (level i free) register received limit bit)
    ≡ step (λ r e l. 1 + tree n free r e l) register received limit bit
unfolding level
sum_step n free longer register received limit bit =
    step_sum register received limit bit (suc n) (λ i. level i free)
    ∙ step_same register received limit bit (λ r e l. sum_below (suc n) (λ i. level i free r e l)) (λ r e l. 1 + tree n free r e l)
    (λ r e l. sum_first n (λ i. level i free r e l) ∙ ap (λ (s : ℕ). 1 + s) (longer r e l))

sum_levels : (n free register : ℕ) (received : List ℕ) (limit : ℕ)
    → sum_below n (λ i. level (suc i) free register received limit) ≡ tree n free register received limit
unfolding tree level sum_below
sum_levels zero free register received limit = refl
sum_levels (suc n) zero register received limit = sum_step n zero (sum_levels n zero) register received limit 0
sum_levels (suc n) (suc free) register received limit =
    sum_plus (suc n) (λ i. step (level i free) register received limit 0) (λ i. step (level i free) register received limit 1)
    ∙ ap₂ (λ (a b : ℕ). a + b)
    (sum_step n free (sum_levels n free) register received limit 0)
    (sum_step n free (sum_levels n free) register received limit 1)

-- ---- The live prefixes of one length

leb_rest : (c d limit : ℕ) → c ≤ limit → leb (c + d) limit ≡ leb d (limit - c)
leb_rest c d limit h =
    below_or_not (limit - c) d
    (λ more. lt-leb (c + d) limit (omega arith) ∙ sym (lt-leb d (limit - c) more))
    (λ no_more. le-leb (c + d) limit (omega arith) ∙ sym (le-leb d (limit - c) no_more))

none_counted : (m : ℕ) → count_bit_lists m (λ bits. false) ≡ 0
unfolding count_bit_lists
none_counted zero = refl
none_counted (suc m) = rw (none_counted m)

-- The disagreements of further bits, from a register on.
further : ℕ → List ℕ → List ℕ → ℕ
further register received bits = differences (coded_from register register bits) received

further_first : (register : ℕ) (received : List ℕ) (bit : ℕ) (bits : List ℕ)
    → further register received (bit ∷ bits) ≡ step_cost received (clocked register bit) + further (clocked register bit) (drop 2 received) bits
unfolding further step_cost coded_from
further_first register received bit bits =
    let next = clocked register bit in
    differences_append (parity first_mask next ∷ parity second_mask next ∷ []) (coded_from next next bits) received

-- Those that begin with a bit are those from the step on.
begin_counted : (m register : ℕ) (received : List ℕ) (limit bit : ℕ) (rest : List ℕ → List ℕ)
    → count_bit_lists m (λ bits. leb (further register received (bit ∷ rest bits)) limit)
    ≡ step (λ r e l. count_bit_lists m (λ bits. leb (further r e (rest bits)) l)) register received limit bit
begin_counted m register received limit bit rest =
    let next = clocked register bit in
    let cost = step_cost received next in
    let after : ℕ → List ℕ → ℕ → ℕ = λ r e l. count_bit_lists m (λ bits. leb (further r e (rest bits)) l) in
    by_test (leb cost limit)
    (λ live.
    count_bit_lists_same m (λ bits. leb (further register received (bit ∷ rest bits)) limit)
    (λ bits. leb (further next (drop 2 received) (rest bits)) (limit - cost))
    (λ bits size are_bits.
    ap (λ (d : ℕ). leb d limit) (further_first register received bit (rest bits))
    ∙ leb_rest cost (further next (drop 2 received) (rest bits)) limit (leb-true cost limit live))
    ∙ sym (step_live register received limit bit after live))
    (λ dead.
    count_bit_lists_same m (λ bits. leb (further register received (bit ∷ rest bits)) limit) (λ bits. false)
    (λ bits size are_bits.
    ap (λ (d : ℕ). leb d limit) (further_first register received bit (rest bits))
    ∙ lt-leb (cost + further next (drop 2 received) (rest bits)) limit (omega (arith, leb-false cost limit dead)))
    ∙ none_counted m ∙ sym (step_dead register received limit bit after dead))

begin_level : (m k free : ℕ) (rest : List ℕ → List ℕ)
    → ((r : ℕ) (e : List ℕ) (l : ℕ) → count_bit_lists m (λ bits. leb (further r e (rest bits)) l) ≡ level k free r e l)
    → (register : ℕ) (received : List ℕ) (limit bit : ℕ)
    → count_bit_lists m (λ bits. leb (further register received (bit ∷ rest bits)) limit) ≡ step (level k free) register received limit bit
begin_level m k free rest longer register received limit bit =
    begin_counted m register received limit bit rest
    ∙ step_same register received limit bit (λ r e l. count_bit_lists m (λ bits. leb (further r e (rest bits)) l)) (level k free) longer

-- No bit is free: the next is 0.
none_free : (register : ℕ) (received : List ℕ) (limit : ℕ) (zeros : List ℕ)
    → count_bit_lists 0 (λ bits. leb (further register received (bits ++ 0 ∷ zeros)) limit)
    ≡ count_bit_lists 0 (λ bits. leb (further register received (0 ∷ (bits ++ zeros))) limit)
unfolding count_bit_lists
none_free register received limit zeros = refl

nothing_further : (register : ℕ) (received : List ℕ) (limit : ℕ) → count_bit_lists 0 (λ bits. leb (further register received (bits ++ [])) limit) ≡ 1
unfolding count_bit_lists further coded_from differences
nothing_further register received limit = rw (le-leb 0 limit (omega arith))

level_counted : (k free m j : ℕ) → m ≡ min k free → j ≡ k - free → (register : ℕ) (received : List ℕ) (limit : ℕ)
    → count_bit_lists m (λ bits. leb (further register received (bits ++ replicate j 0)) limit) ≡ level k free register received limit
unfolding level count_bit_lists
level_counted zero free zero zero e f register received limit = nothing_further register received limit
level_counted zero free zero (suc j) e f register received limit = absurd (omega arith)
level_counted zero free (suc m) j e f register received limit = absurd (omega arith)
level_counted (suc k) zero zero zero e f register received limit = absurd (omega arith)
level_counted (suc k) zero zero (suc j) e f register received limit =
    none_free register received limit (replicate j 0)
    ∙ begin_level 0 k zero (λ bits. bits ++ replicate j 0) (level_counted k zero zero j (omega arith) (omega arith)) register received limit 0
level_counted (suc k) zero (suc m) j e f register received limit = absurd (omega arith)
level_counted (suc k) (suc free) zero j e f register received limit = absurd (omega arith)
level_counted (suc k) (suc free) (suc m) j e f register received limit =
    let rest : List ℕ → List ℕ = λ bits. bits ++ replicate j 0 in
    let longer = level_counted k free m j (omega arith) (omega arith) in
    ap₂ (λ (a b : ℕ). a + b)
    (begin_level m k free rest longer register received limit 0)
    (begin_level m k free rest longer register received limit 1)

live_of_level : (received : List ℕ) (limit k : ℕ) → live_of received limit k ≡ level k 50 0 received limit
unfolding live_of prefixes_of prefix_bits free_of is_live disagreements further
live_of_level received limit k =
    count_by_bits (free_of k) (λ bits. is_live received limit (bits ++ replicate (k - free_of k) 0))
    ∙ level_counted k 50 (free_of k) (k - free_of k) refl (omega arith) 0 received limit

-- The live count is the sum over the tree.
pub live_count_tree : (received : List ℕ) (limit : ℕ) → live_count received limit ≡ tree 81 50 0 received limit
unfolding live_count
live_count_tree received limit =
    sum_same 81 (λ i. live_of received limit (i + 1)) (λ i. level (suc i) 50 0 received limit)
    (λ i h. ap (λ (k : ℕ). live_of received limit k) (add-one i) ∙ live_of_level received limit (suc i))
    ∙ sum_levels 81 50 0 received limit
