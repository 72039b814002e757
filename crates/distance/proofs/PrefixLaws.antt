-- Laws of prefixes: how many there are, the prefixes of a word, its disagreements, which are live, and what a longer prefix adds.
use mathlib.Core.Path.{◌≡◌, refl, sym, ap, ◌∙◌}
use Prim.Native.Nat.{ℕ, zero, suc, ◌+◌, ◌-◌, ◌*◌, ◌/◌, ◌^◌, ◌≤◌, ◌<◌, min}
use native.Mathlib.Nat.{add_comm, div-one, sub_self}
use native.Mathlib.Omega.{arith}
use mathlib.Core.Bool.{true, false}
use mathlib.Core.List.{List, [], ◌∷◌, ◌++◌, append-nil, append_assoc}
use lib.ListN.{length, take, drop, replicate, length-append, length-replicate, take-append-drop, replicate-append-replicate}
use lib.Pow.{pow_mono, pow_pos, shl-shr, shr-shr}
use lib.Seq.{take-append-le, take-append_seam, take-take}
use borrow.Author.Tests.{le-leb, lt-leb, leb-true}
use Rattle.basics.proofs.Choice.{below_or_not}
use Rattle.radix.specs.Numeral.{number_of, digits_of}
use Rattle.convolution.specs.Code.{bits_of, clocked_bits, clocked, coded_from, coded_bits}
use Rattle.convolution.proofs.CodeLaws.{count_bits, bits_number, length_bits_of, length_coded_bits, coded_below}
use Rattle.distance.specs.Prefixes.{free_of, prefix_bits, prefixes_of, differences, disagreements, word_disagreements, is_live}
use Rattle.distance.proofs.Bits.{AllBits, bits_each, differences_sym, triangle, differences_grow}

-- ---- The prefixes of a word

pub free_first : (k : ℕ) → k ≤ 50 → free_of k ≡ k
unfolding free_of
free_first k h = omega arith

pub free_later : (k : ℕ) → 50 ≤ k → free_of k ≡ 50
unfolding free_of
free_later k h = omega arith

free_most : (k : ℕ) → free_of k ≤ k
unfolding free_of
free_most k = omega arith

-- Up to the fiftieth bit all are free.
pub all_free : (k number : ℕ) → k ≤ 50 → prefix_bits k number ≡ bits_of k number
unfolding prefix_bits
all_free k number h = rw (free_first k h, sub_self k, append-nil (bits_of k number))

-- How many prefixes there are.
pub prefixes_root : prefixes_of 0 ≡ 1
unfolding prefixes_of free_of
prefixes_root = refl

pub prefixes_positive : (k : ℕ) → 0 < prefixes_of k
unfolding prefixes_of
prefixes_positive k = pow_pos (free_of k)

pub prefixes_all : (k : ℕ) → prefixes_of k ≤ 2 ^ 50
unfolding prefixes_of free_of
prefixes_all k = pow_mono {i = min k 50} {j = 50} (omega arith)

-- The first k bits of k + j are those of the number without its j lowest.
first_bits : (k j number : ℕ) → take k (bits_of (k + j) number) ≡ bits_of k (number / 2 ^ j)
unfolding bits_of digits_of
first_bits zero j number = refl
first_bits (suc k) j number =
    let longer : suc k + j ≡ suc (k + j) = omega arith in
    rw (longer, count_bits (k + j), count_bits k, shr-shr number j k, add_comm j k, first_bits k j number)

-- Up to the fiftieth bit, and after it.
module _ (k word : ℕ) where
  prefix_first : k ≤ 50 → take k (clocked_bits word) ≡ prefix_bits k (word / 2 ^ (50 - k))
  unfolding clocked_bits
  prefix_first h =
      let all : k + (50 - k) ≡ 50 = omega arith in
      rw (all_free k (word / 2 ^ (50 - k)) h)
      (take-append-le k (bits_of 50 word) (replicate 31 0) (rw (length_bits_of 50 word) h) ∙ rw all at (first_bits k (50 - k) word))

  prefix_later : 50 < k → k ≤ 81 → take k (clocked_bits word) ≡ prefix_bits k (word / 2 ^ (50 - k))
  unfolding clocked_bits prefix_bits
  prefix_later h most =
      let none : 50 - k ≡ 0 = omega arith in
      let all : k - 50 + (81 - k) ≡ 31 = omega arith in
      let bits = bits_of 50 word in
      let zeros : List ℕ = replicate (k - 50) 0 in
      let rest : List ℕ = replicate (81 - k) 0 in
      let tail : zeros ++ rest ≡ replicate 31 0 = rw all at (replicate-append-replicate {A = ℕ} (k - 50) (81 - k) 0) in
      let size : k ≡ length (bits ++ zeros) =
      omega (arith, length-append bits zeros, length_bits_of 50 word, length-replicate {A = ℕ} (k - 50) 0) in
      rw (none, free_later k (omega arith), div-one word, ← tail, ← append_assoc bits zeros rest)
      (ap (λ (n : ℕ). take n ((bits ++ zeros) ++ rest)) size ∙ take-append_seam (bits ++ zeros) rest)

-- "the first k of the 81 clocked bits"
pub prefix_of_word : (k word : ℕ) → k ≤ 81 → take k (clocked_bits word) ≡ prefix_bits k (word / 2 ^ (50 - k))
prefix_of_word k word h = below_or_not 50 k (λ later. prefix_later k word later h) (prefix_first k word)

-- Every number is that of a word's prefix, and different numbers are those of different prefixes.
pub prefix_of_number : (k number : ℕ) → k ≤ 81 → prefix_bits k number ≡ take k (clocked_bits (number * 2 ^ (50 - k)))
prefix_of_number k number h = ap (prefix_bits k) (sym (shl-shr number (50 - k))) ∙ sym (prefix_of_word k (number * 2 ^ (50 - k)) h)

pub prefix_bits_injective : (k m n : ℕ) → m < prefixes_of k → n < prefixes_of k → prefix_bits k m ≡ prefix_bits k n → m ≡ n
unfolding prefixes_of prefix_bits
prefix_bits_injective k m n h l e =
    sym (bits_number (free_of k) h) ∙ ap (number_of (replicate (free_of k) 2)) (sym (free m) ∙ ap (take (free_of k)) e ∙ free n) ∙ bits_number (free_of k) l
  where
    free : (i : ℕ) → take (free_of k) (prefix_bits k i) ≡ bits_of (free_of k) i
    free i =
        rw (length_bits_of (free_of k) i) at (take-append_seam (bits_of (free_of k) i) (replicate (k - free_of k) 0))

pub length_prefix_bits : (k number : ℕ) → length (prefix_bits k number) ≡ k
unfolding prefix_bits
length_prefix_bits k number =
    let first = bits_of (free_of k) number in
    let zeros : List ℕ = replicate (k - free_of k) 0 in
    omega (arith, length-append first zeros, length_bits_of (free_of k) number, length-replicate {A = ℕ} (k - free_of k) 0, free_most k)

word_prefix : (word : ℕ) → prefix_bits 81 word ≡ clocked_bits word
unfolding prefix_bits clocked_bits
word_prefix word = rw (free_later 81 (omega arith))

pub disagreements_of_word : (received : List ℕ) (word : ℕ) → word_disagreements received word ≡ differences (coded_bits word) received
unfolding word_disagreements disagreements coded_bits
disagreements_of_word received word = rw (word_prefix word)

-- Where two words' coded bits differ, what was received disagrees with one of them.
pub disagreements_together : (received : List ℕ) (v w : ℕ) → length received ≡ 162
    → differences (coded_bits v) (coded_bits w) ≤ word_disagreements received v + word_disagreements received w
disagreements_together received v w long =
    let size : length (coded_bits v) ≤ length received = omega (arith, length_coded_bits v) in
    omega (
      arith,
      triangle (coded_bits v) received (coded_bits w) size,
      differences_sym received (coded_bits w),
      disagreements_of_word received v,
      disagreements_of_word received w,
    )

-- ---- Live prefixes

-- "A prefix is live if its disagreements are at most the limit", and only then.
module _ (received : List ℕ) (limit : ℕ) (bits : List ℕ) where
  pub live_within : disagreements received bits ≤ limit → is_live received limit bits ≡ true
  unfolding is_live
  live_within h = le-leb (disagreements received bits) limit h

  pub within_live : is_live received limit bits ≡ true → disagreements received bits ≤ limit
  unfolding is_live
  within_live e = leb-true (disagreements received bits) limit e

  pub not_live : limit < disagreements received bits → is_live received limit bits ≡ false
  unfolding is_live
  not_live h = lt-leb (disagreements received bits) limit h

-- It goes by the disagreements alone.
pub live_same : (r s : List ℕ) (limit : ℕ) (bits others : List ℕ) → disagreements r bits ≡ disagreements s others
    → is_live r limit bits ≡ is_live s limit others
unfolding is_live
live_same r s limit bits others e = rw e

-- ---- Longer prefixes

-- A register after bits were clocked into it.
unfoldable pub register_after : ℕ → List ℕ → ℕ
register_after register [] = register
register_after register (bit ∷ bits) = register_after (clocked register bit) bits

pub coded_from_append : (first second : ℕ) (bits more : List ℕ)
    → coded_from first second (bits ++ more) ≡ coded_from first second bits ++ coded_from (register_after first bits) (register_after second bits) more
unfolding coded_from register_after
coded_from_append first second [] more = refl
coded_from_append first second (bit ∷ bits) more = rw (coded_from_append (clocked first bit) (clocked second bit) bits more)

pub bits_coded_from : (first second : ℕ) (bits : List ℕ) → AllBits (coded_from first second bits)
bits_coded_from first second bits = bits_each (coded_from first second bits) (λ i h. coded_below first second bits i)

pub bits_coded_bits : (word : ℕ) → AllBits (coded_bits word)
unfolding coded_bits
bits_coded_bits word = bits_coded_from 0 0 (clocked_bits word)

-- Disagreements grow along a prefix.
pub disagreements_grow : (received bits more : List ℕ) → disagreements received bits ≤ disagreements received (bits ++ more)
unfolding disagreements
disagreements_grow received bits more =
    rw (coded_from_append 0 0 bits more)
    (differences_grow (coded_from 0 0 bits) (coded_from (register_after 0 bits) (register_after 0 bits) more) received)

-- Disagreements grow along the prefixes of one word.
pub disagreements_along : (received : List ℕ) (j k word : ℕ) → j ≤ k → k ≤ 81
    → disagreements received (prefix_bits j (word / 2 ^ (50 - j))) ≤ disagreements received (prefix_bits k (word / 2 ^ (50 - k)))
disagreements_along received j k word h most =
    let longer = take k (clocked_bits word) in
    rw (← prefix_of_word j word (omega arith), ← prefix_of_word k word most)
    (rw (take-append-drop j longer, take-take j k (clocked_bits word) h) at (disagreements_grow received (take j longer) (drop j longer)))
