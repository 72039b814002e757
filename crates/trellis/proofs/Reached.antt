-- The states within a weight of another, found by a search along the counts that are kept: for each a number, in a list. A checker can compute
-- it; that none is missed is `all_reached`.
use mathlib.Core.Path.{◌≡◌, refl}
use mathlib.Core.Logic.{◌⊎◌, inl, inr}
use Prim.Native.Nat.{ℕ, zero, suc, ◌+◌, ◌-◌, ◌/◌, ◌^◌, ◌≤◌, ◌<◌}
use native.Mathlib.Omega.{arith}
use mathlib.Core.List.{List, [], ◌∷◌}
use lib.ListN.{length}
use Rattle.distance.proofs.Bits.{AllBits}
use Rattle.trellis.proofs.Steps.{Steps, end_of, weight_of, FirstOne, Stays, zeros_or_one}
use Rattle.trellis.proofs.Running.{zero_weight, Running, zero_free, one_weighs, one_counts}
use Rattle.trellis.proofs.Common.{In}

-- Nothing more where nothing is left of a limit; else what a search finds with one less.
unfoldable pub if_left : ℕ → (ℕ → List ℕ → List ℕ) → List ℕ → List ℕ
if_left zero search found = found
if_left (suc left) search found = search left found

-- The state's own number, then those of the states that a 1 leads to, then a 0, so many steps on at most.
unfoldable pub reached : (ℕ → ℕ → ℕ) → (ℕ → ℕ) → ℕ → ℕ → ℕ → ℕ → ℕ → List ℕ → List ℕ
reached to number response zero limit state counts found = number state ∷ found
reached to number response (suc k) limit state counts found =
    let weight = zero_weight counts in
    let later = counts / 4_096 in
    if_left (suc limit - weight) (λ left. reached to number response k left (to state 0) later)
    (if_left (limit + weight - 1) (λ left. reached to number response k left (to state 1) (later + response)) (number state ∷ found))

-- ---- What was found stays

if_left_keeps : (x left : ℕ) (search : ℕ → List ℕ → List ℕ) → ((l : ℕ) (found : List ℕ) → In x found → In x (search l found))
    → (found : List ℕ) → In x found → In x (if_left left search found)
unfolding if_left
if_left_keeps x zero search keeps found there = there
if_left_keeps x (suc left) search keeps found there = keeps left found there

-- Where something is left, the search finds what it finds.
if_left_finds : (x left all : ℕ) (search : ℕ → List ℕ → List ℕ) (found : List ℕ) → all ≡ suc left → In x (search left found)
    → In x (if_left all search found)
unfolding if_left
if_left_finds x left all search found e there = rw e there

module _ (steps : Steps) (counts : ℕ → ℕ) (response : ℕ) (running : Running steps counts response) (number : ℕ → ℕ) where
  abbrev search : ℕ → ℕ → ℕ → ℕ → List ℕ → List ℕ
  search k limit state known found = reached steps.to number response k limit state known found

  -- The searches beyond a state, with the counts that are known of it.
  abbrev on_zero : ℕ → ℕ → ℕ → ℕ → List ℕ → List ℕ
  on_zero k state known left = search k left (steps.to state 0) (known / 4_096)

  abbrev on_one : ℕ → ℕ → ℕ → ℕ → List ℕ → List ℕ
  on_one k state known left = search k left (steps.to state 1) (known / 4_096 + response)

  pub reached_keeps : (x k limit state known : ℕ) (found : List ℕ) → In x (number state ∷ found) → In x (search k limit state known found)
  unfolding In reached
  reached_keeps x zero limit state known found there = there
  reached_keeps x (suc k) limit state known found there =
      if_left_keeps x (suc limit - zero_weight known) (on_zero k state known)
      (λ left others kept. reached_keeps x k left (steps.to state 0) (known / 4_096) others (inr kept)) _
      (if_left_keeps x (limit + zero_weight known - 1) (on_one k state known)
      (λ left others kept. reached_keeps x k left (steps.to state 1) (known / 4_096 + response) others (inr kept)) (number state ∷ found) there)

  -- ---- A path within the limit, and of no more steps, leads to a state that is found

  pub all_reached : (k limit state : ℕ) (bits found : List ℕ) → state < 2 ^ 31 → AllBits bits → length bits ≤ k → weight_of steps state bits ≤ limit
      → In (number (end_of steps state bits)) (search k limit state (counts state) found)
  unfolding In AllBits end_of weight_of reached
  all_reached k limit state [] found small are_bits short light = reached_keeps (number state) k limit state (counts state) found (inl refl)
  all_reached zero limit state (bit ∷ bits) found small are_bits short light = absurd (omega arith)
  all_reached (suc k) limit state (zero ∷ bits) found small are_bits short light =
      let known = counts state in
      let next = steps.to state 0 in
      let weight : steps.weight state 0 ≡ zero_weight known = running.weight_zero state small in
      let left = limit - steps.weight state 0 in
      let x = number (end_of steps next bits) in
      let ones = if_left (limit + zero_weight known - 1) (on_one k state known) (number state ∷ found) in
      let there : In x (search k left next (counts next) ones) =
      all_reached k left next bits ones (running.below state 0 small (omega arith)) are_bits.1 (omega arith) (omega arith) in
      if_left_finds x left (suc limit - zero_weight known) (on_zero k state known) ones (omega arith)
      (rw (running.zero_next state small) at there)
  all_reached (suc k) limit state (suc zero ∷ bits) found small are_bits short light =
      let known = counts state in
      let next = steps.to state 1 in
      let weight : steps.weight state 1 ≡ 2 - zero_weight known = running.one_weight state small in
      let left = limit - steps.weight state 1 in
      let x = number (end_of steps next bits) in
      let here = number state ∷ found in
      let there : In x (search k left next (counts next) here) =
      all_reached k left next bits here (running.below state 1 small (omega arith)) are_bits.1 (omega arith) (omega arith) in
      if_left_keeps x (suc limit - zero_weight known) (on_zero k state known)
      (λ left others kept. reached_keeps x k left (steps.to state 0) (known / 4_096) others (inr kept)) _
      (if_left_finds x left (limit + zero_weight known - 1) (on_one k state known) here (omega arith)
      (rw (running.one_next state small) at there))
  all_reached (suc k) limit state (suc (suc bit) ∷ bits) found small are_bits short light = absurd (omega (arith, are_bits.0))

  -- ---- From the zero state, after a first 1

  abbrev pub after_one : ℕ → ℕ → List ℕ → List ℕ
  after_one k limit found = search k limit (steps.to 0 1) response found

  pub one_reached : (k limit : ℕ) (bits found : List ℕ) → AllBits bits → length bits ≤ k → weight_of steps (steps.to 0 1) bits ≤ limit
      → In (number (end_of steps (steps.to 0 1) bits)) (after_one k limit found)
  one_reached k limit bits found are_bits short light =
      rw (one_counts running) at
      (all_reached k limit (steps.to 0 1) bits found (running.below 0 1 (omega arith) (omega arith)) are_bits short light)

  -- Where a 0 keeps the zero state, every path from it that is light enough leads to a state that is found, if its own number was.
  pub zero_reached : steps.to 0 0 ≡ 0 → (k limit : ℕ) (bits found : List ℕ) → AllBits bits → length bits ≤ k → weight_of steps 0 bits ≤ 2 + limit
      → In (number (end_of steps 0 bits)) (after_one k limit (number 0 ∷ found))
  unfolding In
  zero_reached stays k limit bits found are_bits short light = reach (zeros_or_one steps stays (zero_free running) bits are_bits)
    where
      reach : Stays steps bits ⊎ FirstOne steps bits → In (number (end_of steps 0 bits)) (after_one k limit (number 0 ∷ found))
      reach (inl (zeros, ends)) = rw ends (reached_keeps (number 0) k limit (steps.to 0 1) response (number 0 ∷ found) (inr (inl refl)))
      reach (inr one) =
          rw one.ends_alike
          (one_reached k limit one.after (number 0 ∷ found) one.are_bits (omega (arith, one.shorter))
          (omega (arith, one.weighs, one_weighs running)))
