-- Laws of vectors: what a line says in each case of its definition, the bound of a power, and the symbols of a vector.
use mathlib.Core.Path.{◌≡◌, refl, subst, ◌∙◌}
use Prim.Native.Nat.{ℕ, zero, suc, ◌+◌, ◌^◌, ◌≤◌, ◌<◌}
use native.Mathlib.Nat.{pow-le-pow_right}
use native.Mathlib.Omega.{arith}
use mathlib.Core.Bool.{true, ◌&&◌}
use mathlib.Core.List.{List, [], ◌∷◌}
use lib.Dec.{eqb}
use lib.ListN.{length, get_or, length-map}
use borrow.Author.Tests.{eqb-true}
use Rattle.std.specs.Prelude.{Some}
use denote.Param.Members.{Mut, Called}
use Rattle.std.specs.Array.{IsFromFnResultFrom}
use Rattle.basics.proofs.Choice.{both_true, cond_held, equal_or_not, between_range}
use Rattle.basics.specs.Test.{between}
use Rattle.wsjtx_vectors.specs.Field.{field_at}
use Rattle.wsjtx_vectors.specs.Number.{byte_value}
use Rattle.wsjtx_vectors.specs.Vector.{has_form, power_in, vector_in, symbols_in}
use Rattle.wsjtx_vectors.specs.declared.vector.Vector.{Vector}
use Rattle.wsjtx_vectors.proofs.NumberLaws.{numeral_below}

-- Two digits write less than 100.
pub power_below : (text : List ℕ) (v : ℕ) → power_in text ≡ Some v → v < 100
unfolding power_in
power_below text v e =
    let held = cond_held (between 1 2 (length text)) e (λ other. cc) in
    let short = (between_range 1 2 (length text) held.0).1 in
    let below : v < 10 ^ length text = numeral_below 10 text v held.1 in
    let hundred : 10 ^ length text ≤ 10 ^ 2 = pow-le-pow_right {n = 10} (omega arith) short in
    omega arith

-- A vector has 162 symbols.
pub symbols_of_vector : (line : List ℕ) (vector : Vector) → vector_in line ≡ Some vector → length (field_at 4 line) ≡ 162
unfolding vector_in has_form
symbols_of_vector line vector e =
    let form : (eqb (length (field_at 0 line)) 6 && eqb (length (field_at 1 line)) 4 && eqb (length (field_at 4 line)) 162 && eqb (length line) (length (field_at 2 line) + 189)) ≡ true = (cond_held (has_form line) e (λ other. cc)).0 in
    eqb-true (length (field_at 4 line)) 162 (both_true _ (eqb (length (field_at 4 line)) 162) (both_true _ (eqb (length line) (length (field_at 2 line) + 189)) form).0).1

-- ---- Symbols

pub length_symbols : (text : List ℕ) → length (symbols_in text) ≡ length text
unfolding symbols_in
length_symbols text = length-map text byte_value

pub symbol_at : (text : List ℕ) (i d : ℕ) → i < length text → get_or (symbols_in text) i d ≡ byte_value (get_or text i 0)
unfolding symbols_in
symbol_at [] i d h = absurd (omega arith)
symbol_at (b ∷ bs) zero d h = refl
symbol_at (b ∷ bs) (suc i) d h = symbol_at bs i d (omega arith)

-- An array that a closure makes of each index, where its calls leave it as it was.
module _ {F : Type 0} (g : Mut F (ℕ × Unit {0}) ℕ) (f : F) (value : ℕ → ℕ) (calls : (i y : ℕ) (q : F) → Called g f (i, tt) y q → (q ≡ f) × (y ≡ value i)) where
  pub made_at : (ys : List ℕ) (i n : ℕ) → IsFromFnResultFrom g f ys i n → (k d : ℕ) → i ≤ k → k < i + n → get_or ys k d ≡ value k
  made_at ys i zero h k d low high = absurd (omega arith)
  made_at ys i (suc n) h k d low high =
      let call = calls i h.1 h.0 h.3 in
      let rest : IsFromFnResultFrom g f ys (i + 1) n = subst (λ (q : F). IsFromFnResultFrom g q ys (i + 1) n) call.0 h.4 in
      equal_or_not k i (λ e. rw e (h.2.1 d ∙ call.1))
      (λ other. made_at ys (i + 1) n rest k d (omega arith) (omega arith))
