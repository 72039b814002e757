-- Laws of the nearest word: what the fewest disagreements are, when one word alone has them, and when words share them; and of its margin:
-- what the next fewest are, and that they leave one margin.
use mathlib.Core.Path.{◌≡◌, sym, ◌∙◌}
use mathlib.Core.Logic.{inl, inr, ⊎_elim}
use Prim.Native.Nat.{ℕ, suc, ◌+◌, ◌-◌, ◌^◌, ◌≤◌, ◌<◌}
use native.Mathlib.Omega.{arith}
use mathlib.Core.Bool.{true}
use mathlib.Core.List.{List}
use borrow.Author.Tests.{eq-eqb, eqb-true, lt-ltb, le-ltb, le-leb, lt-leb}
use Rattle.basics.proofs.BelowLaws.{count_two, count_only, count_found_two, count_single, last_single, least_below, least_reached}
use Rattle.basics.proofs.Choice.{below_or_not, equal_or_not}
use Rattle.distance.specs.Prefixes.{word_disagreements}
use Rattle.distance.specs.Nearest.{fewest, has_fewest, sharing, nearest_word, other_than, fewest_of_others, next_fewest, nearest_margin, AtMostAll, OnlyNearest, IsMargin}

-- ---- The numbers other than one

module _ (n : ℕ) where
  lower_other : (i : ℕ) → i < n → other_than n i ≡ i
  unfolding other_than
  lower_other i h = rw (lt-ltb i n h) (omega arith)

  upper_other : (i : ℕ) → n ≤ i → other_than n i ≡ i + 1
  unfolding other_than
  upper_other i h = rw (le-ltb i n h) (omega arith)

  other_different : (i : ℕ) → other_than n i ≡ n → ⊥
  other_different i e = below_or_not i n (λ h. omega (arith, lower_other i h)) (λ h. omega (arith, upper_other i h))

  -- Below a bound there is one fewer of them, and each has its place.
  other_below : (bound i : ℕ) → i + 1 < bound → other_than n i < bound
  other_below bound i k = below_or_not i n (λ h. omega (arith, lower_other i h)) (λ h. omega (arith, upper_other i h))

  other_place : (bound other : ℕ) → n < bound → other < bound → (other ≡ n → ⊥) → (i : ℕ) × ((i + 1 < bound) × (other_than n i ≡ other))
  other_place bound other h k different =
      below_or_not other n
      (λ lower. (other, (omega arith, lower_other other lower)))
      (λ no_lower.
      below_or_not n other
      (λ higher. let same : other - 1 + 1 ≡ other = omega arith in (other - 1, (omega arith, upper_other (other - 1) (omega arith) ∙ same)))
      (λ no-higher. absurd (different (omega arith))))

module _ (received : List ℕ) where
  -- ---- The fewest

  pub fewest_below : (word : ℕ) → word < 2 ^ 50 → fewest received ≤ word_disagreements received word
  unfolding fewest
  fewest_below word h = least_below _ (word_disagreements received) word (omega arith)

  -- One word at least has them.
  pub fewest_reached : (word : ℕ) × ((word < 2 ^ 50) × (word_disagreements received word ≡ fewest received))
  unfolding fewest
  fewest_reached =
      let found = least_reached (2 ^ 50 - 1) (word_disagreements received) in
      (found.0, (omega (arith, found.1.0), found.1.1))

  -- A word has them exactly where no word has fewer.
  pub fewest_is : (word : ℕ) → AtMostAll received word → fewest received ≡ word_disagreements received word
  fewest_is word at_most =
      omega (arith, fewest_below word at_most.0, at_most.1 fewest_reached.0 fewest_reached.1.0, fewest_reached.1.1)

  fewest_held : (word : ℕ) → AtMostAll received word → has_fewest received word ≡ true
  unfolding has_fewest
  fewest_held word at_most = eq-eqb (word_disagreements received word) (fewest received) (sym (fewest_is word at_most))

  at_most_all : (word : ℕ) → word < 2 ^ 50 → has_fewest received word ≡ true → AtMostAll received word
  unfolding has_fewest
  at_most_all word h e = (h, λ other k. omega (arith, fewest_below other k, eqb-true (word_disagreements received word) (fewest received) e))

  -- ---- Where every other word has more

  module _ (word : ℕ) (only : OnlyNearest received word) where
    at_most : AtMostAll received word
    at_most =
        (only.0, λ other h. equal_or_not other word (λ same. rw same (omega arith)) (λ different. omega (arith, only.1 other h different)))

    pub fewest_only : fewest received ≡ word_disagreements received word
    fewest_only = fewest_is word at_most

    no_other : (other : ℕ) → other < 2 ^ 50 → has_fewest received other ≡ true → other ≡ word
    no_other other h e =
        equal_or_not other word
        (λ same. same)
        (λ different. absurd (omega (arith, only.1 other h different, (at_most_all other h e).1 word only.0)))

    pub sharing_only : sharing received ≡ 1
    unfolding sharing
    sharing_only = count_single (2 ^ 50) (has_fewest received) word only.0 (fewest_held word at_most) no_other

    pub nearest_only : nearest_word received ≡ word
    unfolding nearest_word
    nearest_only = last_single (2 ^ 50) (has_fewest received) word only.0 (fewest_held word at_most) no_other

  -- ---- Where one alone has the fewest

  pub only_nearest : sharing received ≤ 1 → OnlyNearest received (nearest_word received)
  unfolding sharing
  only_nearest one = rw (nearest_only found only) only
    where
      found : ℕ
      found = fewest_reached.0

      only : OnlyNearest received found
      only =
          let there = fewest_reached.1.0 in
          let least : AtMostAll received found = (there, λ other h. omega (arith, fewest_below other h, fewest_reached.1.1)) in (
            there,
            λ other h different.
                below_or_not (word_disagreements received found) (word_disagreements received other)
                (λ more. more)
                (λ no_more.
                let as_few : AtMostAll received other = (h, λ third k. omega (arith, least.1 third k)) in
                absurd (different (count_only (2 ^ 50) (has_fewest received) one other found h there (fewest_held other as_few) (fewest_held found least)))),
          )

  -- ---- Where two words or more share the fewest

  pub sharing_two : (v w : ℕ) → (v ≡ w → ⊥) → AtMostAll received v → AtMostAll received w → 2 ≤ sharing received
  unfolding sharing
  sharing_two v w different first second =
      below_or_not v w
      (λ less. count_two (2 ^ 50) (has_fewest received) v w less second.0 (fewest_held v first) (fewest_held w second))
      (λ no_less.
      let less : w < v = omega arith in
      count_two (2 ^ 50) (has_fewest received) w v less first.0 (fewest_held w second) (fewest_held v first))

  pub two_sharing : 2 ≤ sharing received → (v : ℕ) × ((w : ℕ) × ((v ≡ w → ⊥) × (AtMostAll received v × AtMostAll received w)))
  unfolding sharing
  two_sharing two =
      let found = count_found_two (2 ^ 50) (has_fewest received) two in
      let v = found.0 in
      let w = found.1.0 in
      let less : v < w = found.1.1.0 in
      let below : w < 2 ^ 50 = found.1.1.1.0 in
      (v, (w, ((λ same. absurd (omega arith)), (at_most_all v (omega arith) found.1.1.1.1.0, at_most_all w below found.1.1.1.1.1))))

-- ---- The margin

-- The next fewest disagreements, up to limit + 1, less the word's own are its margin.
pub margin_to : (received : List ℕ) (limit word next : ℕ) → word_disagreements received word ≤ next → next ≤ limit + 1
    → ((other : ℕ) → other < 2 ^ 50 → (other ≡ word → ⊥) → next ≤ word_disagreements received other)
    → (next ≤ limit → (other : ℕ) × ((other < 2 ^ 50) × ((other ≡ word → ⊥) × (word_disagreements received other ≡ next))))
    → IsMargin received limit word (next - word_disagreements received word)
margin_to received limit word next from most least found =
    record {
      at_least = λ other h different. omega (arith, least other h different);
      exactly =
          below_or_not limit next
          (λ past.
          inr (record {
            none_within = λ other h different. omega (arith, least other h different);
            next_after_limit = omega arith;
          }))
          (λ within.
          let there = found within in
          inl (record {
            other = there.0;
            in_50_bits = there.1.0;
            different = there.1.1.0;
            more_by_margin = omega (arith, there.1.1.1);
            within_limit = omega (arith, there.1.1.1);
          }));
    }

module _ (received : List ℕ) (limit word : ℕ) (only : OnlyNearest received word) where
  abbrev of : ℕ → ℕ
  of other = word_disagreements received other

  -- ---- The fewest of the others

  others_below : (other : ℕ) → other < 2 ^ 50 → (other ≡ word → ⊥) → fewest_of_others received ≤ of other
  unfolding fewest_of_others
  others_below other h different =
      let at = other_place word (2 ^ 50) other only.0 h different in
      rw (nearest_only received word only, ← at.1.1)
      (least_below (2 ^ 50 - 2) (λ i. of (other_than word i)) at.0 (omega (arith, at.1.0)))

  others_reached : (other : ℕ) × ((other < 2 ^ 50) × ((other ≡ word → ⊥) × (of other ≡ fewest_of_others received)))
  unfolding fewest_of_others
  others_reached =
      rw (nearest_only received word only)
      (let found = least_reached (2 ^ 50 - 2) (λ i. of (other_than word i)) in
      let below = other_below word (2 ^ 50) found.0 (omega (arith, found.1.0)) in
      (other_than word found.0, (below, (other_different word found.0, found.1.1))))

  others_from : (n : ℕ) → ((other : ℕ) → other < 2 ^ 50 → (other ≡ word → ⊥) → n ≤ of other) → n ≤ fewest_of_others received
  others_from n least =
      let found = others_reached in
      omega (arith, least found.0 found.1.0 found.1.1.0, found.1.1.1)

  -- ---- The next fewest

  next_others : fewest_of_others received ≤ limit → next_fewest received limit ≡ fewest_of_others received
  unfolding next_fewest
  next_others within = rw (le-leb (fewest_of_others received) limit within) (omega arith)

  next_limit : limit < fewest_of_others received → next_fewest received limit ≡ limit + 1
  unfolding next_fewest
  next_limit past = rw (lt-leb (fewest_of_others received) limit past) (omega arith)

  -- ---- The margin defined is the margin of the nearest word, where this is within the limit, and the only one

  pub margin_is : of word ≤ limit → IsMargin received limit word (nearest_margin received limit)
  unfolding nearest_margin
  margin_is near =
      rw (fewest_only received word only)
      (below_or_not limit (fewest_of_others received)
      (λ past.
      rw (next_limit past)
      (margin_to received limit word (limit + 1) (omega arith) (omega arith)
      (λ other h different. omega (arith, others_below other h different))
      (λ within. absurd (omega arith))))
      (λ within.
      rw (next_others within)
      (margin_to received limit word (fewest_of_others received)
      (omega (arith, others_from (suc (of word)) only.1)) (omega arith) others_below (λ _. others_reached))))

  pub is_margin : (m : ℕ) → IsMargin received limit word m → nearest_margin received limit ≡ m
  unfolding nearest_margin
  is_margin m is =
      rw (fewest_only received word only)
      (⊎_elim
      (λ there.
      let as_few : fewest_of_others received ≡ of word + m =
      omega (arith, others_below there.other there.in_50_bits there.different, there.more_by_margin, others_from (of word + m) is.at_least) in
      rw (next_others (omega (arith, there.more_by_margin, there.within_limit))) (omega arith))
      (λ none.
      let past : limit < fewest_of_others received = others_from (suc limit) none.none_within in
      rw (next_limit past) (omega (arith, none.next_after_limit)))
      is.exactly)
