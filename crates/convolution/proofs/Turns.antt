-- One turn of the loops of `encode` and `decode`, over lists.
use mathlib.Core.Path.{◌≡◌, refl, ap, ◌∙◌, subst}
use Prim.Native.Nat.{ℕ, zero, suc, ◌+◌, ◌-◌, ◌*◌, ◌^◌, ◌≤◌, ◌<◌}
use native.Mathlib.Nat.{lt_of_lt_of_le, pow-suc}
use native.Mathlib.Numerals.{add-one}
use native.Mathlib.Omega.{arith}
use mathlib.Core.List.{List, [], ◌∷◌, ◌++◌}
use lib.ListN.{length, get_or, set, replicate}
use lib.Pow.{pow_mono}
use Rattle.basics.proofs.Filling.{Filling, fill_starts, fill_turn, fill_ends}
use Rattle.radix.specs.Numeral.{number_from, number_of}
use Rattle.convolution.specs.Code.{clocked_bits, clocked, first_mask, second_mask, parity, coded_bits}
use Rattle.convolution.specs.Decoding.{next_bit, decoded_from, decoded_word}
use Rattle.convolution.proofs.CodeLaws.{length_coded_bits}
use Rattle.convolution.proofs.Coding.{Coding, coding_starts, coding_first, coding_second, coding_turn}
use Rattle.convolution.proofs.DecodingLaws.{next_bit_below}

-- ---- encode

-- Before a turn: the coded bits of the steps so far are written.
pub record Encoding (word : ℕ) (coded : List ℕ) (register step : ℕ) : Type 0 where
  pub filled : Filling (coded_bits word) coded (2 * step)
  pub coding : Coding word register step

pub encoding_starts : (word : ℕ) → Encoding word (replicate 162 0) 0 0
encoding_starts word =
    record { filled = fill_starts (coded_bits word) (replicate 162 0) (rw (length_coded_bits word)); coding = coding_starts word }

pub encoding_turn : (word : ℕ) (coded : List ℕ) (register step : ℕ) → step < 81 → Encoding word coded register step
    → (next : ℕ) → next ≡ clocked register (get_or (clocked_bits word) step 0)
    → (first second : ℕ) → first ≡ parity first_mask next → second ≡ parity second_mask next
    → Encoding word (set (set coded (2 * step) first) (2 * step + 1) second) next (step + 1)
encoding_turn word coded register step h now next e first second e₁ e₂ =
    let room = length_coded_bits word in
    let is_first = e₁ ∙ coding_first word register step h now.coding next e in
    let is_second = e₂ ∙ coding_second word register step h now.coding next e in
    let one = fill_turn 0 (coded_bits word) coded (2 * step) first (omega arith) is_first now.filled in
    let two = fill_turn 0 (coded_bits word) _ (2 * step + 1) second (omega arith) is_second one in
    record {
      filled = subst (λ (i : ℕ). Filling (coded_bits word) (set (set coded (2 * step) first) (2 * step + 1) second) i) (omega arith) two;
      coding = coding_turn word register step h now.coding next e;
    }

pub encoding_ends : (word : ℕ) (coded : List ℕ) (register step : ℕ) → 81 ≤ step → Encoding word coded register step → coded ≡ coded_bits word
encoding_ends word coded register step h now =
    fill_ends (coded_bits word) coded (2 * step) (omega (arith, length_coded_bits word)) now.filled

-- ---- decode

-- Before a turn: the word so far, and the bits that are left to find in the coded bits that are left, make the word.
pub record Decoding (coded : List ℕ) (word register left : ℕ) (coded_left : List ℕ) : Type 0 where
  pub within : left ≤ 50
  pub room : 2 * left ≤ length coded_left
  pub word_below : word < 2 ^ (50 - left)
  pub whole : number_from word (replicate left 2) (decoded_from left register coded_left) ≡ decoded_word coded

pub decoding_starts : (coded : List ℕ) → length coded ≡ 162 → Decoding coded 0 0 50 coded
unfolding decoded_word number_of
decoding_starts coded e = record { within = omega arith; room = omega arith; word_below = omega arith; whole = refl }

module _ {coded : List ℕ} {word register before : ℕ} {coded_left : List ℕ} (left : ℕ) (one : left + 1 ≡ before)
    (now : Decoding coded word register before coded_left) where
  -- The word with one bit more.
  grown : (bit : ℕ) → bit < 2 → word * 2 + bit < 2 ^ (50 - left)
  grown bit below =
      let next : 50 - left ≡ suc (50 - before) = omega (arith, now.within) in
      rw (next, pow-suc 2 (50 - before)) (omega (arith, now.word_below))

  pub decoding_fits : (bit : ℕ) → bit < 2 → word * 2 + bit < 2 ^ 50
  decoding_fits bit below = lt_of_lt_of_le (grown bit below) (pow_mono {i = 50 - left} {j = 50} (omega arith))

  pub decoding_turn : (pair later : List ℕ) → coded_left ≡ pair ++ later → length pair ≡ 2 → (bit next : ℕ)
      → bit ≡ next_bit register (get_or pair 0 0) → next ≡ clocked register bit → Decoding coded (word * 2 + bit) next left later
  unfolding number_from decoded_from
  decoding_turn [] later e two bit next e₁ e₂ = absurd (omega arith)
  decoding_turn (first ∷ []) later e two bit next e₁ e₂ = absurd (omega arith)
  decoding_turn (first ∷ second ∷ []) later e two bit next e₁ e₂ =
      record {
        within = omega (arith, now.within);
        room = omega (arith, now.room, ap length e);
        word_below = grown bit (rw e₁ (next_bit_below register first));
        whole = rw (e₂, e₁) (rw (← one, add-one, e) at now.whole);
      }
  decoding_turn (first ∷ second ∷ third ∷ pair) later e two bit next e₁ e₂ = absurd (omega arith)

-- The coded bits don't run out before the word is found.
pub decoding_ends : (coded : List ℕ) (word register left : ℕ) (coded_left : List ℕ) → (0 < left → length coded_left < 2)
    → Decoding coded word register left coded_left → word ≡ decoded_word coded
unfolding number_from
decoding_ends coded word register zero coded_left over now = now.whole
decoding_ends coded word register (suc left) coded_left over now = absurd (omega (arith, over (omega arith), now.room))
