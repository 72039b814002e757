-- The words that begin with a prefix stand one after another: `span k` of them for one of k bits, and a word's prefix of k bits has the
-- number word / span k. The search goes through the words in their order.
use mathlib.Core.Path.{◌≡◌, refl, sym, ap, ◌∙◌}
use Prim.Native.Nat.{ℕ, ◌+◌, ◌-◌, ◌*◌, ◌/◌, ◌^◌, ◌≤◌, ◌<◌, min, suc}
use native.Mathlib.Nat.{pow-suc, add-mul, mul_assoc, mul_comm, zero-mul, one-mul, div-one, mul-div_cancel, div-lt_iff_lt-mul, mul-le-mul_right, mul-lt-mul_of_pos_right}
use native.Mathlib.Omega.{arith}
use mathlib.Core.List.{List}
use lib.Arith.{digits_div}
use lib.Pow.{pow-add, pow_pos, shr-shr, shr_mono}
use Rattle.basics.proofs.Choice.{below_or_not}
use Rattle.distance.specs.Prefixes.{free_of, prefix_bits, prefixes_of, disagreements, word_disagreements}
use Rattle.distance.specs.Steps.{branches_of, child_of, parent_of, last_branch}
use Rattle.distance.proofs.StepLaws.{branches_first, branches_later, child_first, child_later, last_branch_below, child_parent}

-- How many words begin with a prefix of k bits.
unfoldable pub span : ℕ → ℕ
span k = 2 ^ (50 - k)

pub span_positive : (k : ℕ) → 0 < span k
unfolding span
span_positive k = pow_pos (50 - k)

-- Each bit of the word halves them; the bits of the tail don't.
span_half : (k : ℕ) → k < 50 → span k ≡ 2 * span (k + 1)
unfolding span
span_half k h =
    let more : 50 - k ≡ suc (50 - (k + 1)) = omega arith in
    rw (more, pow-suc 2 (50 - (k + 1))) (mul_comm (2 ^ (50 - (k + 1))) 2)

pub span_tail : (k : ℕ) → 50 ≤ k → span k ≡ 1
unfolding span
span_tail k h = let none : 50 - k ≡ 0 = omega arith in rw none

-- A longer prefix has a part of them: how many such parts there are.
unfoldable pub parts : ℕ → ℕ → ℕ
parts j k = 2 ^ (50 - j - (50 - k))

pub parts_span : (j k : ℕ) → j ≤ k → parts j k * span k ≡ span j
unfolding parts span
parts_span j k h =
    let all : 50 - j - (50 - k) + (50 - k) ≡ 50 - j = omega arith in
    sym (pow-add 2 (50 - j - (50 - k)) (50 - k)) ∙ ap (λ (n : ℕ). 2 ^ n) all

-- ---- Prefixes of words

-- The prefix of a prefix.
shorter : (j k word : ℕ) → j ≤ k → word / span j ≡ word / span k / parts j k
unfolding parts span
shorter j k word h =
    let all : 50 - k + (50 - j - (50 - k)) ≡ 50 - j = omega arith in
    sym (shr-shr word (50 - k) (50 - j - (50 - k)) ∙ ap (λ (n : ℕ). word / 2 ^ n) all)

-- Words that share their first k bits share fewer of them.
pub share_fewer : (j k v w : ℕ) → j ≤ k → v / span k ≡ w / span k → v / span j ≡ w / span j
share_fewer j k v w h e = shorter j k v h ∙ ap (λ (n : ℕ). n / parts j k) e ∙ sym (shorter j k w h)

-- The words with a prefix begin at its number times their count.
pub within_span : (k number rest : ℕ) → rest < span k → (number * span k + rest) / span k ≡ number
within_span k number rest h = digits_div number h

pub first_of_span : (k number : ℕ) → number * span k / span k ≡ number
first_of_span k number = mul-div_cancel number (span_positive k)

-- ---- Branches

module _ (k : ℕ) where
  branches_span : branches_of k * span (k + 1) ≡ span k
  branches_span =
      below_or_not k 50
      (λ first. rw (branches_first k first) (sym (span_half k first)))
      (λ later. rw (branches_later k later, span_tail k later, span_tail (k + 1) (omega arith)))

  module _ (number : ℕ) where
    -- The words with a branch follow those with the branches before it.
    pub child_span : (branch : ℕ) → branch < branches_of k → child_of k number branch * span (k + 1) ≡ number * span k + branch * span (k + 1)
    child_span branch h =
        below_or_not k 50
        (λ first. rw (child_first k first number branch, span_half k first) (twice number branch (span (k + 1))))
        (λ later.
        let none : branch ≡ 0 = omega (arith, branches_later k later) in
        rw (child_later k later number branch, span_tail k later, span_tail (k + 1) (omega arith), none) (omega arith))
      where
        twice : (n b s : ℕ) → (2 * n + b) * s ≡ n * (2 * s) + b * s
        twice n b s = rw (add-mul (2 * n) b s, mul_assoc 2 n s, mul_comm n (2 * s), mul_assoc 2 s n, mul_comm s n)

    -- The first word with a branch or one after it, for a search that has passed the words with the branches before.
    abbrev pub next_word : ℕ → ℕ
    next_word branch = number * span k + branch * span (k + 1)

    pub next_none : next_word 0 ≡ number * span k
    next_none = omega (arith, zero-mul (span (k + 1)))

    pub next_more : (branch : ℕ) → next_word (branch + 1) ≡ next_word branch + span (k + 1)
    next_more branch = rw (add-mul branch 1 (span (k + 1)), one-mul (span (k + 1))) (omega arith)

    pub next_all : next_word (branches_of k) ≡ number * span k + span k
    next_all = rw branches_span

    module _ (branch : ℕ) (h : branch < branches_of k) where
      before_end : branch * span (k + 1) < span k
      before_end = rw (← branches_span) (mul-lt-mul_of_pos_right h (span_positive (k + 1)))

      pub next_prefix : next_word branch / span k ≡ number
      next_prefix = within_span k number (branch * span (k + 1)) before_end

      pub next_child : next_word branch / span (k + 1) ≡ child_of k number branch
      next_child = ap (λ (n : ℕ). n / span (k + 1)) (sym (child_span branch h)) ∙ first_of_span (k + 1) (child_of k number branch)

      pub next_below : next_word branch < number * span k + span k
      next_below = omega (arith, before_end)

-- Back from a prefix of one bit more: its words are those with its last branch, and those with the next branch follow.
module _ (k number : ℕ) where
  abbrev parent : ℕ
  parent = parent_of k number

  abbrev last : ℕ
  last = last_branch k number

  parent_next : next_word k parent last ≡ number * span (k + 1)
  parent_next = sym (child_span k parent last (last_branch_below k number)) ∙ ap (λ (n : ℕ). n * span (k + 1)) (child_parent k number)

  pub parent_span : next_word k parent (last + 1) ≡ number * span (k + 1) + span (k + 1)
  parent_span = next_more k parent last ∙ ap (λ (n : ℕ). n + span (k + 1)) parent_next

  pub parent_begins : number * span (k + 1) / span k ≡ parent
  parent_begins = ap (λ (n : ℕ). n / span k) (sym parent_next) ∙ next_prefix k parent last (last_branch_below k number)

-- ---- All words

-- All prefixes of k bits have all words.
all_spans : (k : ℕ) → prefixes_of k * span k ≡ 2 ^ 50
unfolding prefixes_of span free_of
all_spans k =
    let all : min k 50 + (50 - k) ≡ 50 = omega arith in
    sym (pow-add 2 (min k 50) (50 - k)) ∙ ap (λ (n : ℕ). 2 ^ n) all

-- The empty prefix has them.
pub span_root : span 0 ≡ 2 ^ 50
unfolding span
span_root = refl

pub prefix_below : (k word : ℕ) → word < 2 ^ 50 → word / span k < prefixes_of k
prefix_below k word h = (div-lt_iff_lt-mul (span_positive k)).1 (rw (all_spans k) h)

-- The words with a prefix are among them.
pub span_within : (k number : ℕ) → number < prefixes_of k → number * span k + span k ≤ 2 ^ 50
span_within k number h =
    let next : (number + 1) * span k ≤ prefixes_of k * span k = mul-le-mul_right (span k) (omega arith) in
    omega (arith, all_spans k, add-mul number 1 (span k), one-mul (span k))

pub prefix_count : (k : ℕ) → 2 ^ 50 / span k ≡ prefixes_of k
prefix_count k = ap (λ (n : ℕ). n / span k) (sym (all_spans k)) ∙ mul-div_cancel (prefixes_of k) (span_positive k)

pub prefixes_most : (k words : ℕ) → words ≤ 2 ^ 50 → words / span k ≤ prefixes_of k
unfolding span
prefixes_most k words h = omega (arith, prefix_count k, shr_mono (50 - k) h)

-- A word is a prefix of 81 bits.
pub word_at : (received : List ℕ) (word : ℕ) → disagreements received (prefix_bits 81 (word / span 81)) ≡ word_disagreements received word
unfolding word_disagreements
word_at received word = rw (span_tail 81 (omega arith), div-one word)
