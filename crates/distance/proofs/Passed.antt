-- How many live prefixes a search has passed that goes through the prefixes depth first, in the order of their words. It stands at a prefix
-- of some depth, whose first word is `first`, and `next` is the first of the words that it has not passed. Of the prefixes that aren't
-- longer it has passed those up to the one it stands at, and of the longer ones those whose words it has passed.
use mathlib.Core.Path.{◌≡◌, sym, ap, ◌∙◌}
use Prim.Native.Nat.{ℕ, ◌+◌, ◌*◌, ◌/◌, ◌^◌, ◌≤◌, ◌<◌}
use native.Mathlib.Nat.{add-div_right, add-mul-div_right, zero-div, mul-lt-mul_of_pos_right}
use native.Mathlib.Omega.{arith}
use mathlib.Core.Bool.{Bool, false, cond}
use mathlib.Core.List.{List}
use lib.Dec.{leb}
use borrow.Author.Tests.{le-leb, lt-leb}
use Rattle.basics.specs.Below.{sum_below, count_below}
use Rattle.basics.proofs.BelowLaws.{sum_same, sum_le, sum_zero, sum_raised, count_none, count_append, count_raised, count_up_to}
use Rattle.basics.proofs.Choice.{below_or_not, equal_or_not}
use Rattle.distance.specs.Prefixes.{prefix_bits, prefixes_of, disagreements, is_live, live_of, live_count}
use Rattle.distance.proofs.Spans.{span, span_positive, parts, parts_span, share_fewer, within_span, prefix_below, prefix_count, prefixes_most}
use Rattle.distance.proofs.PrefixLaws.{live_within, not_live, disagreements_along}

-- How many prefixes of k bits are passed.
passed_at : ℕ → ℕ → ℕ → ℕ → ℕ
passed_at depth first next k = cond (leb k depth) (first / span k + 1) (next / span k)

module _ (depth first next k : ℕ) where
  passed_shorter : k ≤ depth → passed_at depth first next k ≡ first / span k + 1
  unfolding passed_at
  passed_shorter h = rw (le-leb k depth h)

  passed_longer : depth < k → passed_at depth first next k ≡ next / span k
  unfolding passed_at
  passed_longer h = rw (lt-leb k depth h)

-- ---- The moves of a search, for the prefixes of one length

-- One prefix longer: that one is passed. The next word begins with the prefix that the search stands at.
module _ (depth first next k : ℕ) (with_first : next / span depth ≡ first / span depth) where
  enter_others : (k ≡ depth + 1 → ⊥) → passed_at (depth + 1) next next k ≡ passed_at depth first next k
  enter_others other =
      below_or_not depth k
      (λ longer.
      let more : depth + 1 < k = omega arith in
      passed_longer (depth + 1) next next k more ∙ sym (passed_longer depth first next k longer))
      (λ shorter.
      passed_shorter (depth + 1) next next k (omega arith)
      ∙ ap (λ (n : ℕ). n + 1) (share_fewer k depth next first shorter with_first)
      ∙ sym (passed_shorter depth first next k shorter))

enter_one : (depth first next : ℕ) → passed_at (depth + 1) next next (depth + 1) ≡ passed_at depth first next (depth + 1) + 1
enter_one depth first next =
    passed_shorter (depth + 1) next next (depth + 1) (omega arith)
    ∙ ap (λ (n : ℕ). n + 1) (sym (passed_longer depth first next (depth + 1) (omega arith)))

-- One prefix shorter, once all words with the longer one are passed.
leave : (depth first parent k : ℕ) → first / span depth ≡ parent / span depth
    → passed_at (depth + 1) first (first + span (depth + 1)) k ≡ passed_at depth parent (first + span (depth + 1)) k
leave depth first parent k with_parent =
    let next = first + span (depth + 1) in
    below_or_not depth k
    (λ longer.
    equal_or_not k (depth + 1)
    (λ same.
    rw same
    (passed_shorter (depth + 1) first next (depth + 1) (omega arith)
    ∙ sym (passed_longer depth parent next (depth + 1) (omega arith) ∙ add-div_right first (span_positive (depth + 1)))))
    (λ other.
    passed_longer (depth + 1) first next k (omega arith) ∙ sym (passed_longer depth parent next k longer)))
    (λ shorter.
    passed_shorter (depth + 1) first next k (omega arith)
    ∙ ap (λ (n : ℕ). n + 1) (share_fewer k depth first parent shorter with_parent)
    ∙ sym (passed_shorter depth parent next k shorter))

-- All words with a prefix passed at once: of the shorter prefixes none is passed, of the others those with these words.
pass_shorter : (depth first next more k : ℕ) → k ≤ depth → passed_at depth first (next + more) k ≡ passed_at depth first next k
pass_shorter depth first next more k h = passed_shorter depth first (next + more) k h ∙ sym (passed_shorter depth first next k h)

pass_longer : (depth first next k : ℕ) → depth < k
    → passed_at depth first (next + span (depth + 1)) k ≡ passed_at depth first next k + parts (depth + 1) k
pass_longer depth first next k h =
    passed_longer depth first (next + span (depth + 1)) k h
    ∙ ap (λ (n : ℕ). (next + n) / span k) (sym (parts_span (depth + 1) k (omega arith)))
    ∙ add-mul-div_right next (parts (depth + 1) k) (span_positive k)
    ∙ ap (λ (n : ℕ). n + parts (depth + 1) k) (sym (passed_longer depth first next k h))

-- No more are passed than there are.
passed_most : (depth first next k : ℕ) → first < 2 ^ 50 → next ≤ 2 ^ 50 → passed_at depth first next k ≤ prefixes_of k
passed_most depth first next k h l =
    below_or_not depth k
    (λ longer. rw (passed_longer depth first next k longer) (prefixes_most k next l))
    (λ shorter. rw (passed_shorter depth first next k shorter) (omega (arith, prefix_below k first h)))

-- ---- The live ones

module _ (received : List ℕ) (limit : ℕ) where
  abbrev alive : ℕ → ℕ → Bool
  alive k number = is_live received limit (prefix_bits k number)

  -- How many live prefixes are passed, of one length and of all.
  abbrev live_at : ℕ → ℕ → ℕ → ℕ → ℕ
  live_at depth first next i = count_below (passed_at depth first next (i + 1)) (alive (i + 1))

  pub passed_live : ℕ → ℕ → ℕ → ℕ
  passed_live depth first next = sum_below 81 (live_at depth first next)

  -- Where as many are passed, as many live ones are.
  at_bound : (i : ℕ) {m n : ℕ} → m ≡ n → count_below m (alive (i + 1)) ≡ count_below n (alive (i + 1))
  at_bound i e = ap (λ (bound : ℕ). count_below bound (alive (i + 1))) e

  passed_same : (d f n d' f' n' : ℕ) → ((k : ℕ) → k ≤ 81 → passed_at d f n k ≡ passed_at d' f' n' k) → passed_live d f n ≡ passed_live d' f' n'
  unfolding passed_live
  passed_same d f n d' f' n' same = sum_same 81 (live_at d f n) (live_at d' f' n') (λ i h. at_bound i (same (i + 1) (omega arith)))

  -- A live prefix is counted as it is entered.
  pub live_enter : (depth first next : ℕ) → depth < 81 → next / span depth ≡ first / span depth
      → disagreements received (prefix_bits (depth + 1) (next / span (depth + 1))) ≤ limit
      → passed_live (depth + 1) next next ≡ passed_live depth first next + 1
  unfolding passed_live
  live_enter depth first next h with_first near =
      sum_raised 81 (live_at (depth + 1) next next) (live_at depth first next) depth h
      (at_bound depth (enter_one depth first next)
      ∙ count_raised (passed_at depth first next (depth + 1)) (alive (depth + 1))
      (rw (passed_longer depth first next (depth + 1) (omega arith)) (live_within received limit (prefix_bits (depth + 1) (next / span (depth + 1))) near)))
      (λ i k other. at_bound i (enter_others depth first next (i + 1) with_first (λ same. other (omega arith))))

  pub live_leave : (depth first parent : ℕ) → first / span depth ≡ parent / span depth
      → passed_live (depth + 1) first (first + span (depth + 1)) ≡ passed_live depth parent (first + span (depth + 1))
  live_leave depth first parent with_parent =
      passed_same (depth + 1) first (first + span (depth + 1)) depth parent (first + span (depth + 1)) (λ k h. leave depth first parent k with_parent)

  -- At a whole word every prefix is one that isn't longer.
  pub live_whole : (first next other : ℕ) → passed_live 81 first next ≡ passed_live 81 first other
  live_whole first next other =
      passed_same 81 first next 81 first other (λ k h. passed_shorter 81 first next k h ∙ sym (passed_shorter 81 first other k h))

  -- Below a prefix that isn't live nothing is.
  pub words_not_live : (depth number word k : ℕ) → word / span depth ≡ number → limit < disagreements received (prefix_bits depth number)
      → depth ≤ k → k ≤ 81 → limit < disagreements received (prefix_bits k (word / span k))
  unfolding span
  words_not_live depth number word k same far h most =
      let along = disagreements_along received depth k word h most in
      let begins : disagreements received (prefix_bits depth (word / span depth)) ≡ disagreements received (prefix_bits depth number) =
      ap (λ (n : ℕ). disagreements received (prefix_bits depth n)) same in
      omega arith

  module _ (depth first number : ℕ) (far : limit < disagreements received (prefix_bits (depth + 1) number)) where
    part_not_live : (k i : ℕ) → depth < k → k ≤ 81 → i < parts (depth + 1) k → alive k (number * span (depth + 1) / span k + i) ≡ false
    part_not_live k i h most small =
        let next = number * span (depth + 1) in
        let rest : i * span k < span (depth + 1) = rw (← parts_span (depth + 1) k (omega arith)) (mul-lt-mul_of_pos_right small (span_positive k)) in
        not_live received limit (prefix_bits k (next / span k + i))
        (rw (add-mul-div_right next i (span_positive k)) at
        (words_not_live (depth + 1) number (next + i * span k) k (within_span (depth + 1) number (i * span k) rest) far (omega arith) most))

    pub live_pass : passed_live depth first (number * span (depth + 1) + span (depth + 1)) ≡ passed_live depth first (number * span (depth + 1))
    unfolding passed_live
    live_pass =
        let next = number * span (depth + 1) in
        sum_same 81 (live_at depth first (next + span (depth + 1))) (live_at depth first next)
        (λ i h.
        below_or_not depth (i + 1)
        (λ longer.
        at_bound i (pass_longer depth first next (i + 1) longer)
        ∙ count_append (passed_at depth first next (i + 1)) (parts (depth + 1) (i + 1)) (alive (i + 1))
        ∙ ap (λ (n : ℕ). live_at depth first next i + n)
        (count_none (parts (depth + 1) (i + 1)) (λ j. alive (i + 1) (passed_at depth first next (i + 1) + j))
        (λ j small. rw (passed_longer depth first next (i + 1) longer) (part_not_live (i + 1) j longer (omega arith) small)))
        ∙ omega arith)
        (λ shorter. at_bound i (pass_shorter depth first next (span (depth + 1)) (i + 1) shorter)))

  -- The whole count: none before the search, all after it, and never more.
  pub live_starts : passed_live 0 0 0 ≡ 0
  unfolding passed_live
  live_starts =
      sum_same 81 (live_at 0 0 0) (λ i. 0)
      (λ i h.
      at_bound i (passed_longer 0 0 0 (i + 1) (omega arith) ∙ zero-div (span (i + 1)))
      ∙ count_none 0 (alive (i + 1)) (λ j k. absurd (omega arith)))
      ∙ sum_zero 81

  pub live_ends : passed_live 0 0 (2 ^ 50) ≡ live_count received limit
  unfolding passed_live live_count live_of
  live_ends =
      sum_same 81 (live_at 0 0 (2 ^ 50)) (λ i. live_of received limit (i + 1))
      (λ i h. at_bound i (passed_longer 0 0 (2 ^ 50) (i + 1) (omega arith) ∙ prefix_count (i + 1)))

  pub live_most : (depth first next : ℕ) → first < 2 ^ 50 → next ≤ 2 ^ 50 → passed_live depth first next ≤ live_count received limit
  unfolding passed_live live_count live_of
  live_most depth first next h l =
      sum_le 81 (live_at depth first next) (λ i. live_of received limit (i + 1))
      (λ i k. count_up_to (passed_at depth first next (i + 1)) (prefixes_of (i + 1)) (alive (i + 1)) (passed_most depth first next (i + 1) h l))
