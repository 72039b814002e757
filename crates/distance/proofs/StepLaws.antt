-- Laws of steps: a prefix that is one bit longer, its register, and what the bit adds to the disagreements.
use mathlib.Core.Path.{◌≡◌, refl, sym, ap, ap₂, ◌∙◌}
use Prim.Native.Nat.{ℕ, zero, suc, ◌+◌, ◌-◌, ◌*◌, ◌/◌, ◌%◌, ◌^◌, ◌≤◌, ◌<◌}
use native.Mathlib.Nat.{add-zero, mul_assoc, mod-mod, mul_comm, pow-suc, sub_self}
use native.Mathlib.Numerals.{add-one}
use native.Mathlib.Omega.{arith}
use mathlib.Core.List.{List, [], ◌∷◌, ◌++◌, append_assoc}
use lib.Dec.{eqb}
use lib.ListN.{length, get_or, drop, replicate, length-drop, replicate-append-replicate}
use lib.Pow.{shr-shr}
use lib.Seq.{drop-cons}
use borrow.Author.Tests.{lt-ltb, le-ltb}
use Rattle.basics.proofs.Choice.{cond_both, below_or_not}
use Rattle.radix.specs.Numeral.{digits_of, number_from, number_of}
use Rattle.convolution.specs.Code.{bits_of, clocked, first_mask, second_mask, parity, coded_from}
use Rattle.convolution.proofs.CodeLaws.{count_bits, bits_number, length_bits_of, length_coded_from, first_odd, second_odd, parity_other}
use Rattle.distance.specs.Prefixes.{free_of, prefix_bits, prefixes_of, unlike, differences, disagreements}
use Rattle.distance.specs.Steps.{branches_of, child_of, parent_of, last_branch, register_of, step_cost, zero_cost, branch_cost}
use Rattle.distance.proofs.Bits.{AllBits, bits_drop, unlike_most, unlike_others, differences_append}
use Rattle.distance.proofs.PrefixLaws.{free_first, free_later, all_free, length_prefix_bits, register_after, coded_from_append}

-- ---- Branches

-- Up to the fiftieth bit, and after it.
module _ (k : ℕ) (h : k < 50) where
  pub branches_first : branches_of k ≡ 2
  unfolding branches_of
  branches_first = rw (lt-ltb k 50 h)

  pub child_first : (number branch : ℕ) → child_of k number branch ≡ 2 * number + branch
  unfolding child_of
  child_first number branch = rw (lt-ltb k 50 h)

  pub parent_first : (number : ℕ) → parent_of k number ≡ number / 2
  unfolding parent_of
  parent_first number = rw (lt-ltb k 50 h)

  pub last_first : (number : ℕ) → last_branch k number ≡ number % 2
  unfolding last_branch
  last_first number = rw (lt-ltb k 50 h)

  prefixes_first : prefixes_of (k + 1) ≡ prefixes_of k * 2
  unfolding prefixes_of
  prefixes_first = rw (add-one k, free_first (suc k) h, free_first k (omega arith)) (pow-suc 2 k)

module _ (k : ℕ) (h : 50 ≤ k) where
  pub branches_later : branches_of k ≡ 1
  unfolding branches_of
  branches_later = rw (le-ltb k 50 h)

  pub child_later : (number branch : ℕ) → child_of k number branch ≡ number
  unfolding child_of
  child_later number branch = rw (le-ltb k 50 h)

  pub parent_later : (number : ℕ) → parent_of k number ≡ number
  unfolding parent_of
  parent_later number = rw (le-ltb k 50 h)

  pub last_later : (number : ℕ) → last_branch k number ≡ 0
  unfolding last_branch
  last_later number = rw (le-ltb k 50 h)

  prefixes_later : prefixes_of (k + 1) ≡ prefixes_of k
  unfolding prefixes_of
  prefixes_later = rw (free_later (k + 1) (omega arith), free_later k h)

module _ (k : ℕ) where
  pub branches_most : branches_of k ≤ 2
  branches_most = below_or_not k 50 (λ first. omega (arith, branches_first k first)) (λ later. omega (arith, branches_later k later))

  -- Longer, and the number is that of a prefix still.
  pub child_below : (number branch : ℕ) → number < prefixes_of k → branch < branches_of k → child_of k number branch < prefixes_of (k + 1)
  child_below number branch h b =
      below_or_not k 50
      (λ first. omega (arith, child_first k first number branch, branches_first k first, prefixes_first k first))
      (λ later. omega (arith, child_later k later number branch, prefixes_later k later))

  -- Back, and longer by the branch again.
  module _ (number : ℕ) where
    pub parent_below : number < prefixes_of (k + 1) → parent_of k number < prefixes_of k
    parent_below h =
        below_or_not k 50
        (λ first. omega (arith, parent_first k first number, prefixes_first k first))
        (λ later. omega (arith, parent_later k later number, prefixes_later k later))

    pub last_branch_below : last_branch k number < branches_of k
    last_branch_below =
        below_or_not k 50
        (λ first. omega (arith, last_first k first number, branches_first k first))
        (λ later. omega (arith, last_later k later number, branches_later k later))

    pub child_parent : child_of k (parent_of k number) (last_branch k number) ≡ number
    child_parent =
        below_or_not k 50
        (λ first. rw (child_first k first, parent_first k first, last_first k first) (omega arith))
        (λ later. rw (child_later k later, parent_later k later))

-- ---- Bits

-- A new lowest bit comes last.
bits_longer : (m number bit : ℕ) → bit < 2 → bits_of (suc m) (2 * number + bit) ≡ bits_of m number ++ (bit ∷ [])
unfolding bits_of digits_of
bits_longer zero number bit h = let lowest : (2 * number + bit) / 1 % 2 ≡ bit = omega arith in rw (count_bits 0, lowest)
bits_longer (suc m) number bit h =
    let longer : suc m ≡ 1 + m = omega arith in
    let half : (2 * number + bit) / 2 ^ 1 ≡ number = omega arith in
    ap₂ (λ (x : ℕ) (xs : List ℕ). x ∷ xs)
    (rw (count_bits (suc m), count_bits m, longer, ← shr-shr (2 * number + bit) 1 m, half))
    (bits_longer m number bit h)

-- After the fiftieth bit zeros follow.
zero_longer : (k number : ℕ) → 50 ≤ k → prefix_bits (k + 1) number ≡ prefix_bits k number ++ (0 ∷ [])
unfolding prefix_bits
zero_longer k number h =
    let more : k + 1 - 50 ≡ k - 50 + 1 = omega arith in
    rw (free_later (k + 1) (omega arith), free_later k h, more, ← replicate-append-replicate {A = ℕ} (k - 50) 1 0)
    (sym (append_assoc (bits_of 50 number) (replicate (k - 50) 0) (0 ∷ [])))

prefix_child : (k number branch : ℕ) → branch < branches_of k
    → prefix_bits (k + 1) (child_of k number branch) ≡ prefix_bits k number ++ (branch ∷ [])
prefix_child k number branch b =
    below_or_not k 50
    (λ first.
    rw (child_first k first number branch, add-one k, all_free (suc k) _ first, all_free k number (omega arith))
    (bits_longer k number branch (omega (arith, branches_first k first))))
    (λ later.
    let only : branch ≡ 0 = omega (arith, branches_later k later) in
    rw (child_later k later number branch, only) (zero_longer k number later))

-- ---- Registers

-- The register is the number that the bits write, modulo 2^32.
clocked_number : (n bit : ℕ) → clocked (n % 2 ^ 32) bit ≡ (n * 2 + bit) % 2 ^ 32
unfolding clocked
clocked_number n bit = omega arith

register_number : (n : ℕ) (bits : List ℕ) → register_after (n % 2 ^ 32) bits ≡ number_from n (replicate (length bits) 2) bits % 2 ^ 32
unfolding register_after number_from
register_number n [] = refl
register_number n (bit ∷ bits) = rw (clocked_number n bit) (register_number (n * 2 + bit) bits)

register_append : (register : ℕ) (bits more : List ℕ) → register_after register (bits ++ more) ≡ register_after (register_after register bits) more
unfolding register_after
register_append register [] more = refl
register_append register (bit ∷ bits) more = register_append (clocked register bit) bits more

-- Each zero doubles it.
pub register_zeros : (n j : ℕ) → register_after (n % 2 ^ 32) (replicate j 0) ≡ n * 2 ^ j % 2 ^ 32
unfolding register_after
register_zeros n zero = omega arith
register_zeros n (suc j) =
    ap (λ (r : ℕ). register_after r (replicate j 0)) (clocked_number n 0)
    ∙ register_zeros (n * 2 + 0) j
    ∙ rw (add-zero (n * 2), pow-suc 2 j, mul_comm (2 ^ j) 2, ← mul_assoc n 2 (2 ^ j))

-- The register after a prefix, whose number has no bits but the prefix's.
register_prefix : (k number : ℕ) → number < prefixes_of k → register_after 0 (prefix_bits k number) ≡ register_of k number
unfolding prefix_bits prefixes_of register_of number_of
register_prefix k number h =
    let free = free_of k in
    let first : register_after 0 (bits_of free number) ≡ number % 2 ^ 32 =
    register_number 0 (bits_of free number)
    ∙ rw (length_bits_of free number, bits_number free h) in
    rw (register_append 0 (bits_of free number) (replicate (k - free) 0), first) (register_zeros number (k - free))

-- As code has it: up to the fiftieth bit the lowest 32 bits.
pub register_first : (k : ℕ) → k < 50 → (number : ℕ) → register_of k number ≡ number % 2 ^ 32
unfolding register_of
register_first k h number = rw (free_first k (omega arith), sub_self k) (omega arith)

-- After it, the lowest 32 bits shifted by the zeros.
pub register_later : (k : ℕ) → 50 ≤ k → (number : ℕ) → register_of k number ≡ number % 2 ^ 32 * 2 ^ (k - 50) % 2 ^ 32
unfolding register_of
register_later k h number =
    let zeros : List ℕ = replicate (k - 50) 0 in
    rw (free_later k h)
    (sym (register_zeros number (k - 50))
    ∙ ap (λ (r : ℕ). register_after r zeros) (sym (mod-mod number (2 ^ 32)))
    ∙ register_zeros (number % 2 ^ 32) (k - 50))

-- ---- Costs

-- The two coded bits against the received bits at a place and the next.
pub step_cost_at : (received : List ℕ) (place register : ℕ) → place + 1 < length received
    → step_cost (drop place received) register
    ≡ unlike (parity first_mask register) (get_or received place 0) + unlike (parity second_mask register) (get_or received (place + 1) 0)
unfolding step_cost differences
step_cost_at received place register h =
    rw (drop-cons received place 0 (omega arith), drop-cons received (suc place) 0 (omega arith), add-one place) (omega arith)

pub step_cost_most : (received : List ℕ) (register : ℕ) → step_cost received register ≤ 2
unfolding step_cost differences
step_cost_most [] register = omega arith
step_cost_most (x ∷ []) register = omega (arith, unlike_most (parity first_mask register) x)
step_cost_most (x ∷ y ∷ received) register = omega (arith, unlike_most (parity first_mask register) x, unlike_most (parity second_mask register) y)

pub zero_cost_most : (received : List ℕ) (k number : ℕ) → zero_cost received k number ≤ 2
unfolding zero_cost
zero_cost_most received k number = step_cost_most (drop (2 * k) received) (clocked (register_of k number) 0)

-- A received bit is unlike the coded bit of a 0 or that of a 1.
coded_others : (mask register x : ℕ) → mask % 2 ≡ 1 → x < 2
    → unlike (parity mask (clocked register 0)) x + unlike (parity mask (clocked register 1)) x ≡ 1
coded_others mask register x odd h =
    unlike_others (parity mask (clocked register 0)) (parity mask (clocked register 1)) x (parity_other mask register odd) h

pub step_others : (received : List ℕ) (register : ℕ) → 2 ≤ length received → AllBits received
    → step_cost received (clocked register 0) + step_cost received (clocked register 1) ≡ 2
unfolding step_cost differences AllBits
step_others [] register long h = absurd (omega arith)
step_others (x ∷ []) register long h = absurd (omega arith)
step_others (x ∷ y ∷ received) register long h =
    omega (arith, coded_others first_mask register x first_odd h.0, coded_others second_mask register y second_odd h.1.0)

step_branch : (received : List ℕ) (register branch : ℕ) → 2 ≤ length received → AllBits received → branch < 2
    → step_cost received (clocked register branch) ≡ branch_cost (step_cost received (clocked register 0)) branch
unfolding branch_cost
step_branch received register zero long h b = refl
step_branch received register (suc zero) long h b = omega (arith, step_others received register long h)
step_branch received register (suc (suc branch)) long h b = absurd (omega arith)

pub branch_cost_most : (cost branch : ℕ) → cost ≤ 2 → branch_cost cost branch ≤ 2
unfolding branch_cost
branch_cost_most cost branch h = cond_both (λ n. n ≤ 2) (eqb branch 0) h (omega arith)

-- ---- Disagreements

pub prefix_empty : (received : List ℕ) → disagreements received (prefix_bits 0 0) ≡ 0
unfolding disagreements prefix_bits free_of bits_of digits_of coded_from differences
prefix_empty received = refl

-- One bit more adds the cost of its step.
disagreements_step : (received bits : List ℕ) (bit : ℕ)
    → disagreements received (bits ++ (bit ∷ []))
    ≡ disagreements received bits + step_cost (drop (2 * length bits) received) (clocked (register_after 0 bits) bit)
unfolding disagreements step_cost coded_from
disagreements_step received bits bit =
    rw (coded_from_append 0 0 bits (bit ∷ []), ← length_coded_from 0 0 bits)
    (differences_append (coded_from 0 0 bits) (coded_from (register_after 0 bits) (register_after 0 bits) (bit ∷ [])) received)

-- A longer prefix has the disagreements of the shorter one and those of the step.
pub disagreements_branch : (received : List ℕ) (k number branch : ℕ) → length received ≡ 162 → AllBits received → k < 81
    → number < prefixes_of k → branch < branches_of k
    → disagreements received (prefix_bits (k + 1) (child_of k number branch))
    ≡ disagreements received (prefix_bits k number) + branch_cost (zero_cost received k number) branch
unfolding zero_cost
disagreements_branch received k number branch long are_bits h n b =
    let rest = drop (2 * k) received in
    let two : 2 ≤ length rest = omega (arith, length-drop (2 * k) received) in
    let bits = prefix_bits k number in
    rw (
      prefix_child k number branch b,
      disagreements_step received bits branch,
      length_prefix_bits k number,
      register_prefix k number n,
      step_branch rest (register_of k number) branch two (bits_drop (2 * k) received are_bits) (omega (arith, branches_most k)),
    )
