-- The live prefixes around a sent word depend on the flips alone: they are as many as those around the zero word with the same flips. And
-- with d flips those within a limit are at most those of the unflipped frame within the limit plus d; and whatever was received, at most
-- those within twice the limit.
use mathlib.Core.Path.{◌≡◌, refl, sym, ap, ◌∙◌}
use Prim.Native.Nat.{ℕ, ◌+◌, ◌-◌, ◌*◌, ◌/◌, ◌^◌, ◌≤◌}
use native.Mathlib.Omega.{arith}
use mathlib.Core.Bool.{Bool, true}
use mathlib.Core.List.{List, ◌++◌}
use lib.Count.{ones}
use lib.ListN.{length, drop, replicate, length-append, take-append-drop}
use Rattle.basics.proofs.BelowLaws.{sum_same, sum_le, count_le, least_below, least_reached}
use Rattle.radix.specs.Numeral.{count, digits_of}
use Rattle.convolution.specs.Code.{bits_of, clocked_bits, clocked, first_mask, second_mask, parity, coded_from, coded_bits}
use Rattle.convolution.proofs.CodeLaws.{length_bits_of, length_coded_from, length_coded_bits}
use Rattle.distance.specs.Prefixes.{free_of, prefix_bits, prefixes_of, differences, disagreements, is_live, live_of, live_count}
use Rattle.distance.proofs.Bits.{AllBits, bits_append, bits_zeros, bits_bits_of, summed, summed_append, summed_zeros, summed_unchanged, summed_twice, bits_summed, triangle, differences_sym, differences_summed, differences_longer}
use Rattle.distance.proofs.BitCounts.{count_bit_lists_same, count_by_bits, count_bit_lists_summed}
use Rattle.distance.proofs.Linear.{coded_from_sum}
use Rattle.distance.proofs.PrefixLaws.{length_prefix_bits, prefix_of_word, prefix_of_number, live_within, within_live, live_same, register_after, coded_from_append, bits_coded_from, bits_coded_bits}

-- ---- Around a sent word

module _ (word : ℕ) (flips : List ℕ) (are_bits : AllBits flips) where
  -- What is received: the word's coded bits, with the flips added.
  abbrev received : List ℕ
  received = summed (coded_bits word) flips

  -- A prefix added to the sent one disagrees with what is received as it does by itself with the flips.
  disagreements_recentred : (sent rest bits : List ℕ) → clocked_bits word ≡ sent ++ rest → length bits ≡ length sent → AllBits sent → AllBits bits
      → disagreements received (summed bits sent) ≡ disagreements flips bits
  unfolding disagreements coded_bits
  disagreements_recentred sent rest bits split same h k =
      let later = coded_from (register_after 0 sent) (register_after 0 sent) rest in
      let own = coded_from 0 0 bits in
      let theirs = coded_from 0 0 sent in
      let size : length own ≡ length theirs = omega (arith, length_coded_from 0 0 bits, length_coded_from 0 0 sent) in
      rw (split, coded_from_append 0 0 sent rest, coded_from_sum 0 0 0 0 bits sent k h)
      (differences_summed own theirs later flips size (bits_coded_from 0 0 bits) (bits_coded_from 0 0 sent) are_bits)

  prefix_recentred : (k : ℕ) (bits : List ℕ) → k ≤ 81 → length bits ≡ free_of k → AllBits bits
      → disagreements received (summed bits (bits_of (free_of k) (word / 2 ^ (50 - k))) ++ replicate (k - free_of k) 0)
      ≡ disagreements flips (bits ++ replicate (k - free_of k) 0)
  unfolding prefix_bits
  prefix_recentred k bits h e b =
      let zeros : List ℕ = replicate (k - free_of k) 0 in
      let first = bits_of (free_of k) (word / 2 ^ (50 - k)) in
      let sent = first ++ zeros in
      let first_size : length first ≡ free_of k = length_bits_of (free_of k) (word / 2 ^ (50 - k)) in
      let split : clocked_bits word ≡ sent ++ drop k (clocked_bits word) =
      sym (take-append-drop k (clocked_bits word)) ∙ ap (λ (xs : List ℕ). xs ++ drop k (clocked_bits word)) (prefix_of_word k word h) in
      let same : length (bits ++ zeros) ≡ length sent = omega (arith, length-append bits zeros, length-append first zeros) in
      let sent_bits : AllBits sent = bits_append first zeros (bits_bits_of (free_of k) (word / 2 ^ (50 - k))) (bits_zeros (k - free_of k)) in
      let apart : summed (bits ++ zeros) sent ≡ summed bits first ++ zeros =
      summed_append bits first zeros zeros (omega arith) ∙ ap (λ (xs : List ℕ). summed bits first ++ xs) (summed_zeros (k - free_of k)) in
      ap (disagreements received) (sym apart)
      ∙ disagreements_recentred sent (drop k (clocked_bits word)) (bits ++ zeros) split same sent_bits (bits_append bits zeros b (bits_zeros (k - free_of k)))

  live_of_recentred : (limit k : ℕ) → k ≤ 81 → live_of received limit k ≡ live_of flips limit k
  unfolding live_of prefixes_of prefix_bits
  live_of_recentred limit k h =
      let m = free_of k in
      let zeros : List ℕ = replicate (k - free_of k) 0 in
      let sent = bits_of m (word / 2 ^ (50 - k)) in
      let live : List ℕ → List ℕ → Bool = λ r bits. is_live r limit (bits ++ zeros) in
      count_by_bits m (live received)
      ∙ sym (count_bit_lists_summed m (live received) sent (length_bits_of m (word / 2 ^ (50 - k))) (bits_bits_of m (word / 2 ^ (50 - k))))
      ∙ count_bit_lists_same m (λ bits. live received (summed bits sent)) (live flips)
      (λ bits e b. live_same received flips limit (summed bits sent ++ zeros) (bits ++ zeros) (prefix_recentred k bits h e b))
      ∙ sym (count_by_bits m (live flips))

  pub live_count_recentred : (limit : ℕ) → live_count received limit ≡ live_count flips limit
  unfolding live_count
  live_count_recentred limit =
      sum_same _ (λ i. live_of received limit (i + 1)) (λ i. live_of flips limit (i + 1)) (λ i h. live_of_recentred limit (i + 1) (omega arith))

-- So it is of any received bits: what counts is where they differ from the word's.
pub live_count_around : (word limit : ℕ) (received : List ℕ) → AllBits received → length received ≡ 162
    → live_count received limit ≡ live_count (summed (coded_bits word) received) limit
live_count_around word limit received are_bits long =
    let flips = summed (coded_bits word) received in
    let back : summed (coded_bits word) flips ≡ received =
    summed_twice (coded_bits word) received (bits_coded_bits word) are_bits (omega (arith, length_coded_bits word)) in
    ap (λ (r : List ℕ). live_count r limit) (sym back) ∙ live_count_recentred word flips (bits_summed (coded_bits word) received) limit

-- ---- No flips

-- The coded bits of the zero word.
abbrev pub zero_bits : List ℕ
zero_bits = replicate 162 0

pub coded_bits_zero : coded_bits 0 ≡ zero_bits
unfolding coded_bits clocked_bits bits_of digits_of count coded_from clocked parity first_mask second_mask ones
coded_bits_zero = refl

-- A word's own coded bits count as those of the zero word do.
own_bits : (word : ℕ) → summed (coded_bits word) zero_bits ≡ coded_bits word
own_bits word = summed_unchanged 162 (coded_bits word) (bits_coded_bits word) (omega (arith, length_coded_bits word))

live_of_clean : (word limit k : ℕ) → k ≤ 81 → live_of (coded_bits word) limit k ≡ live_of zero_bits limit k
live_of_clean word limit k h =
    ap (λ (r : List ℕ). live_of r limit k) (sym (own_bits word)) ∙ live_of_recentred word zero_bits (bits_zeros 162) limit k h

pub live_count_clean : (word limit : ℕ) → live_count (coded_bits word) limit ≡ live_count zero_bits limit
live_count_clean word limit =
    ap (λ (r : List ℕ). live_count r limit) (sym (own_bits word)) ∙ live_count_recentred word zero_bits (bits_zeros 162) limit

-- ---- Some flips

-- With d flips, what is live within a limit is live within the limit plus d where nothing is flipped.
module _ (word : ℕ) (received : List ℕ) (long : length received ≡ 162) where
  live_unflipped : (limit k number : ℕ) → k ≤ 81 → is_live received limit (prefix_bits k number) ≡ true
      → is_live (coded_bits word) (limit + differences received (coded_bits word)) (prefix_bits k number) ≡ true
  unfolding disagreements
  live_unflipped limit k number h e =
      live_within (coded_bits word) (limit + differences received (coded_bits word)) (prefix_bits k number)
      (closer (within_live received limit (prefix_bits k number) e))
    where
      closer : disagreements received (prefix_bits k number) ≤ limit
          → disagreements (coded_bits word) (prefix_bits k number) ≤ limit + differences received (coded_bits word)
      closer near =
          let coded = coded_from 0 0 (prefix_bits k number) in
          let size : length coded ≤ length received = omega (arith, length_coded_from 0 0 (prefix_bits k number), length_prefix_bits k number) in
          omega (arith, triangle coded received (coded_bits word) size)

  live_of_flipped : (limit k : ℕ) → k ≤ 81 → live_of received limit k ≤ live_of (coded_bits word) (limit + differences received (coded_bits word)) k
  unfolding live_of
  live_of_flipped limit k h =
      count_le (prefixes_of k) (λ number. is_live received limit (prefix_bits k number))
      (λ number. is_live (coded_bits word) (limit + differences received (coded_bits word)) (prefix_bits k number))
      (λ number below e. live_unflipped limit k number h e)

  pub live_count_flipped : (limit : ℕ) → live_count received limit ≤ live_count (coded_bits word) (limit + differences received (coded_bits word))
  unfolding live_count
  live_count_flipped limit =
      sum_le _ (λ i. live_of received limit (i + 1)) (λ i. live_of (coded_bits word) (limit + differences received (coded_bits word)) (i + 1))
      (λ i h. live_of_flipped limit (i + 1) (omega arith))

-- ---- Any received bits

-- Two prefixes of a length that are both live are within twice the limit of each other: so no more of that length are live than are around a
-- word's own coded bits at twice the limit.
module _ (received : List ℕ) (long : length received ≡ 162) (limit k : ℕ) (h : k ≤ 81) where
  -- A word that begins with a prefix.
  abbrev word_with : ℕ → ℕ
  word_with number = number * 2 ^ (50 - k)

  begins : (number : ℕ) → clocked_bits (word_with number) ≡ prefix_bits k number ++ drop k (clocked_bits (word_with number))
  begins number =
      sym (take-append-drop k (clocked_bits (word_with number)))
      ∙ ap (λ (xs : List ℕ). xs ++ drop k (clocked_bits (word_with number))) (sym (prefix_of_number k number h))

  both_live : (m n : ℕ) → disagreements received (prefix_bits k m) ≤ limit → disagreements received (prefix_bits k n) ≤ limit
      → disagreements (coded_bits (word_with n)) (prefix_bits k m) ≤ limit + limit
  unfolding disagreements coded_bits
  both_live m n near also =
      let one = coded_from 0 0 (prefix_bits k m) in
      let other = coded_from 0 0 (prefix_bits k n) in
      let rest = drop k (clocked_bits (word_with n)) in
      let later = coded_from (register_after 0 (prefix_bits k n)) (register_after 0 (prefix_bits k n)) rest in
      let one_size : length one ≡ 2 * k = length_coded_from 0 0 (prefix_bits k m) ∙ ap (λ (n : ℕ). 2 * n) (length_prefix_bits k m) in
      let other_size : length other ≡ 2 * k = length_coded_from 0 0 (prefix_bits k n) ∙ ap (λ (n : ℕ). 2 * n) (length_prefix_bits k n) in
      rw (begins n, coded_from_append 0 0 (prefix_bits k n) rest, differences_longer one other later (omega arith))
      (omega (arith, triangle one received other (omega arith), differences_sym received other))

  live_of_any : live_of received limit k ≤ live_of zero_bits (limit + limit) k
  unfolding live_of
  live_of_any =
      let of : ℕ → ℕ = λ number. disagreements received (prefix_bits k number) in
      let (nearest, (there, least)) = least_reached (prefixes_of k - 1) of in
      let word = word_with nearest in
      rw (← live_of_clean word (limit + limit) k h)
      (count_le (prefixes_of k) (λ number. is_live received limit (prefix_bits k number))
      (λ number. is_live (coded_bits word) (limit + limit) (prefix_bits k number))
      (λ number below live.
      let near = within_live received limit (prefix_bits k number) live in
      live_within (coded_bits word) (limit + limit) (prefix_bits k number)
      (both_live number nearest near (omega (arith, least, near, least_below (prefixes_of k - 1) of number (omega arith))))))

pub live_count_any : (received : List ℕ) → length received ≡ 162 → (limit : ℕ) → live_count received limit ≤ live_count zero_bits (limit + limit)
unfolding live_count
live_count_any received long limit =
    sum_le _ (λ i. live_of received limit (i + 1)) (λ i. live_of zero_bits (limit + limit) (i + 1))
    (λ i h. live_of_any received long limit (i + 1) (omega arith))
