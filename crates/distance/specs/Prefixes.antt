-- Prefixes of the clocked bits, their disagreements with the received data bits, and the live count (01, 'Repair'). The prefixes are the
-- nodes of the code tree, the live ones those within the distance limit. `received` stands for the received data bits in coded
-- order (01: S order).
use Rattle.std.specs.Prelude.{ℕ, ◌+◌, ◌-◌, ◌^◌, min, Bool, cond, List, [], ◌∷◌, ◌++◌, eqb, leb, replicate}
use Rattle.basics.specs.Below.{sum_below, count_below}
use Rattle.convolution.specs.Code.{bits_of, coded_from}

-- How many of the first k clocked bits are free: "every bit after the fiftieth" is zero.
unfoldable pub free_of : ℕ → ℕ
free_of k = min k 50

-- "A prefix is the first k of the 81 clocked bits, k from 1 to 81, with every bit after the fiftieth zero." Its free bits are those of a
-- number, so that the prefixes of k bits are numbered from 0 on. That these are the first k clocked bits of all words, each numbered once,
-- is `prefix_of_word`, `prefix_of_number` and `prefix_bits_injective` of proofs/PrefixLaws.antt.
unfoldable pub prefix_bits : ℕ → ℕ → List ℕ
prefix_bits k number = bits_of (free_of k) number ++ replicate (k - free_of k) 0

-- How many prefixes of k bits there are.
unfoldable pub prefixes_of : ℕ → ℕ
prefixes_of k = 2 ^ free_of k

-- 1 where two bits differ, else 0.
abbrev pub unlike : ℕ → ℕ → ℕ
unlike x y = cond (eqb x y) 0 1

-- In how many of the places that both lists have they differ.
unfoldable pub differences : List ℕ → List ℕ → ℕ
differences [] ys = 0
differences (x ∷ xs) [] = 0
differences (x ∷ xs) (y ∷ ys) = unlike x y + differences xs ys

-- "Its disagreements are the number of its 2k coded bits that differ from the received data bits": its Hamming distance to them.
unfoldable pub disagreements : List ℕ → List ℕ → ℕ
disagreements received bits = differences (coded_from 0 0 bits) received

-- "The disagreements of a word, any number below 2^50, are those of its prefix of 81 bits."
unfoldable pub word_disagreements : List ℕ → ℕ → ℕ
word_disagreements received word = disagreements received (prefix_bits 81 word)

-- "A prefix is live if its disagreements are at most the limit."
unfoldable pub is_live : List ℕ → ℕ → List ℕ → Bool
is_live received limit bits = leb (disagreements received bits) limit

-- How many prefixes of k bits are live.
unfoldable pub live_of : List ℕ → ℕ → ℕ → ℕ
live_of received limit k = count_below (prefixes_of k) (λ number. is_live received limit (prefix_bits k number))

-- "The live count is the number of live prefixes over all k together, those of different lengths counted separately; the empty prefix
-- isn't counted." So k goes from 1 to 81.
unfoldable pub live_count : List ℕ → ℕ → ℕ
live_count received limit = sum_below 81 (λ shorter. live_of received limit (shorter + 1))
