-- Coded bits determine the clocked bits: the word that is decoded is the only one that may have them.
use mathlib.Core.Path.{◌≡◌, refl, sym, ap, ◌∙◌}
use Prim.Native.Nat.{ℕ, zero, suc, ◌^◌, ◌<◌}
use native.Mathlib.Omega.{arith}
use mathlib.Core.List.{List, [], ◌∷◌, ◌++◌}
use lib.Dec.{eqb}
use lib.ListN.{get_or, drop, replicate}
use borrow.Author.Tests.{eq-eqb, ne_eqb}
use Rattle.basics.proofs.Choice.{by_test}
use Rattle.radix.specs.Numeral.{Digits, number_of}
use Rattle.radix.proofs.Laws.{number_below}
use Rattle.convolution.specs.Code.{bits_of, clocked_bits, clocked, first_mask, parity, coded_from, coded_bits}
use Rattle.convolution.specs.Decoding.{next_bit, decoded_from, decoded_word, OnlyWord}
use Rattle.convolution.proofs.CodeLaws.{count_bits, bits_in_range, bits_number, first_odd, parity_other}

-- ---- One bit

pub next_bit_zero : (register coded : ℕ) → parity first_mask (clocked register 0) ≡ coded → 0 ≡ next_bit register coded
unfolding next_bit
next_bit_zero register coded e = rw (eq-eqb _ _ e)

pub next_bit_one : (register coded : ℕ) → (parity first_mask (clocked register 0) ≡ coded → ⊥) → 1 ≡ next_bit register coded
unfolding next_bit
next_bit_one register coded other = rw (ne_eqb _ _ other)

pub next_bit_below : (register coded : ℕ) → next_bit register coded < 2
unfolding next_bit
next_bit_below register coded =
    by_test (eqb (parity first_mask (clocked register 0)) coded) (λ e. rw e (omega arith)) (λ e. rw e (omega arith))

-- The bit that was clocked is found.
next_bit_clocked : (register bit : ℕ) → bit < 2 → next_bit register (parity first_mask (clocked register bit)) ≡ bit
unfolding next_bit
next_bit_clocked register zero h = rw (eq-eqb _ _ refl)
next_bit_clocked register (suc zero) h =
    let other = parity_other first_mask register first_odd in
    rw (ne_eqb (parity first_mask (clocked register 0)) (parity first_mask (clocked register 1)) (λ same. absurd (omega arith)))
next_bit_clocked register (suc (suc bit)) h = absurd (omega arith)

-- ---- All bits

decoded_in_range : (n register : ℕ) (coded : List ℕ) → Digits (replicate n 2) (decoded_from n register coded)
unfolding Digits decoded_from
decoded_in_range zero register coded = tt
decoded_in_range (suc n) register coded =
    let bit = next_bit register (get_or coded 0 0) in
    (next_bit_below register (get_or coded 0 0), decoded_in_range n (clocked register bit) (drop 2 coded))

-- The bits that were clocked are found.
decoded_from_coded_from : (n register : ℕ) (bits later : List ℕ) → Digits (replicate n 2) bits
    → decoded_from n register (coded_from register register (bits ++ later)) ≡ bits
unfolding Digits decoded_from coded_from
decoded_from_coded_from zero register [] later h = refl
decoded_from_coded_from zero register (bit ∷ bits) later h = absurd h
decoded_from_coded_from (suc n) register [] later h = absurd h
decoded_from_coded_from (suc n) register (bit ∷ bits) later h =
    rw (next_bit_clocked register bit h.0, decoded_from_coded_from n (clocked register bit) bits later h.1)

-- ---- Words

pub decoded_word_below : (coded : List ℕ) → decoded_word coded < 2 ^ 50
unfolding decoded_word
decoded_word_below coded =
    rw (← count_bits 50) (number_below (replicate 50 2) (decoded_from 50 0 coded) (decoded_in_range 50 0 coded))

pub decode_encode : (word : ℕ) → word < 2 ^ 50 → decoded_word (coded_bits word) ≡ word
unfolding decoded_word coded_bits clocked_bits
decode_encode word h =
    ap (number_of (replicate 50 2)) (decoded_from_coded_from 50 0 (bits_of 50 word) (replicate 31 0) (bits_in_range 50 word))
    ∙ bits_number 50 h

pub only_word : (coded : List ℕ) → OnlyWord coded (decoded_word coded)
only_word coded = (decoded_word_below coded, λ other h e. sym (decode_encode other h) ∙ ap decoded_word e)

-- Different words have different coded bits.
pub encode_injective : (v w : ℕ) → v < 2 ^ 50 → w < 2 ^ 50 → coded_bits v ≡ coded_bits w → v ≡ w
encode_injective v w h k e = sym (decode_encode v h) ∙ ap decoded_word e ∙ decode_encode w k
