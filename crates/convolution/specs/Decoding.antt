-- Back from coded bits: the one word that may have them. 01 has no words for this direction, and none has to be believed: where a word has
-- these coded bits, `OnlyWord`, which `decode` promises, leaves no other; where none has, a reader finds that by comparing.
use Rattle.std.specs.Prelude.{◌≡◌, ℕ, zero, suc, ◌^◌, ◌<◌, cond, List, [], ◌∷◌, eqb, get_or, drop, replicate}
use Rattle.radix.specs.Numeral.{number_of}
use Rattle.convolution.specs.Code.{first_mask, clocked, parity, coded_bits}

-- The bit that gives the first coded bit, clocked next into the register: 0 or else 1. The mask's lowest bit is 1, so that the two give
-- different coded bits.
unfoldable pub next_bit : ℕ → ℕ → ℕ
next_bit register coded = cond (eqb (parity first_mask (clocked register 0)) coded) 0 1

-- The n bits that the first of each pair of coded bits determine, clocked into the register.
unfoldable pub decoded_from : ℕ → ℕ → List ℕ → List ℕ
decoded_from zero register coded = []
decoded_from (suc n) register coded =
    let bit = next_bit register (get_or coded 0 0) in
    bit ∷ decoded_from n (clocked register bit) (drop 2 coded)

-- The word of the 50 bits, highest first.
unfoldable pub decoded_word : List ℕ → ℕ
decoded_word coded = number_of (replicate 50 2) (decoded_from 50 0 coded)

-- It is a 50-bit word, and no other 50-bit word has these coded bits.
abbrev pub OnlyWord : List ℕ → ℕ → Type 0
OnlyWord coded word = (word < 2 ^ 50) × ((other : ℕ) → other < 2 ^ 50 → coded_bits other ≡ coded → other ≡ word)
