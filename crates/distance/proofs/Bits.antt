-- Lists of bits: their sums modulo 2, and in how many places they differ.
use mathlib.Core.Path.{◌≡◌, refl, sym, ap₂, ◌∙◌}
use Prim.Native.Nat.{ℕ, zero, suc, ◌+◌, ◌%◌, ◌≤◌, ◌<◌}
use native.Mathlib.Nat.{mod-lt}
use native.Mathlib.Omega.{arith}
use mathlib.Core.Bool.{Bool, true, false, cond, not}
use mathlib.Core.List.{List, [], ◌∷◌, ◌++◌}
use lib.Dec.{eqb}
use lib.ListN.{length, get_or, drop, replicate}
use borrow.Author.Tests.{eq-eqb, ne_eqb}
use Rattle.basics.specs.Below.{count_below}
use Rattle.basics.proofs.BelowLaws.{count_first, count_none}
use Rattle.basics.proofs.Choice.{equal_or_not}
use Rattle.radix.specs.Numeral.{Digits}
use Rattle.convolution.specs.Code.{bits_of}
use Rattle.convolution.proofs.CodeLaws.{bits_in_range}
use Rattle.distance.specs.Prefixes.{unlike, differences}

-- ---- Bits

-- Each element is 0 or 1.
unfoldable pub AllBits : List ℕ → Type 0
AllBits [] = Unit
AllBits (x ∷ xs) = (x < 2) × AllBits xs

pub bits_each : (xs : List ℕ) → ((i : ℕ) → i < length xs → get_or xs i 0 < 2) → AllBits xs
unfolding AllBits
bits_each [] h = tt
bits_each (x ∷ xs) h = (h 0 (omega arith), bits_each xs (λ i k. h (suc i) (omega arith)))

pub bits_append : (xs ys : List ℕ) → AllBits xs → AllBits ys → AllBits (xs ++ ys)
unfolding AllBits
bits_append [] ys h k = k
bits_append (x ∷ xs) ys h k = (h.0, bits_append xs ys h.1 k)

pub bits_parts : (xs ys : List ℕ) → AllBits (xs ++ ys) → AllBits xs × AllBits ys
unfolding AllBits
bits_parts [] ys h = (tt, h)
bits_parts (x ∷ xs) ys h = let (first, later) = bits_parts xs ys h.1 in ((h.0, first), later)

pub bits_drop : (n : ℕ) (xs : List ℕ) → AllBits xs → AllBits (drop n xs)
unfolding AllBits
bits_drop zero xs h = h
bits_drop (suc n) [] h = tt
bits_drop (suc n) (x ∷ xs) h = bits_drop n xs h.1

pub bits_zeros : (n : ℕ) → AllBits (replicate n 0)
unfolding AllBits
bits_zeros zero = tt
bits_zeros (suc n) = (omega arith, bits_zeros n)

bits_digits : (n : ℕ) (xs : List ℕ) → Digits (replicate n 2) xs → AllBits xs
unfolding AllBits Digits
bits_digits zero [] h = tt
bits_digits zero (x ∷ xs) h = absurd h
bits_digits (suc n) [] h = absurd h
bits_digits (suc n) (x ∷ xs) h = (h.0, bits_digits n xs h.1)

pub bits_bits_of : (n number : ℕ) → AllBits (bits_of n number)
bits_bits_of n number = bits_digits n (bits_of n number) (bits_in_range n number)

-- ---- Sums modulo 2, over the places that both lists have

unfoldable pub summed : List ℕ → List ℕ → List ℕ
summed [] ys = []
summed (x ∷ xs) [] = []
summed (x ∷ xs) (y ∷ ys) = (x + y) % 2 ∷ summed xs ys

pub bits_summed : (xs ys : List ℕ) → AllBits (summed xs ys)
unfolding AllBits summed
bits_summed [] ys = tt
bits_summed (x ∷ xs) [] = tt
bits_summed (x ∷ xs) (y ∷ ys) = (mod-lt (x + y) (omega arith), bits_summed xs ys)

pub summed_append : (xs ys us vs : List ℕ) → length xs ≡ length ys → summed (xs ++ us) (ys ++ vs) ≡ summed xs ys ++ summed us vs
unfolding summed
summed_append [] [] us vs e = refl
summed_append [] (y ∷ ys) us vs e = absurd (omega arith)
summed_append (x ∷ xs) [] us vs e = absurd (omega arith)
summed_append (x ∷ xs) (y ∷ ys) us vs e = rw (summed_append xs ys us vs (omega arith))

pub summed_zeros : (n : ℕ) → summed (replicate n 0) (replicate n 0) ≡ replicate n 0
unfolding summed
summed_zeros zero = refl
summed_zeros (suc n) = rw (summed_zeros n)

-- Zeros change nothing.
pub summed_unchanged : (n : ℕ) (xs : List ℕ) → AllBits xs → length xs ≤ n → summed xs (replicate n 0) ≡ xs
unfolding AllBits summed
summed_unchanged n [] h k = refl
summed_unchanged zero (x ∷ xs) h k = absurd (omega arith)
summed_unchanged (suc n) (x ∷ xs) h k =
    let same : (x + 0) % 2 ≡ x = omega (arith, h.0) in
    rw (same, summed_unchanged n xs h.1 (omega arith))

-- A list and itself make zeros.
pub summed_same : (n : ℕ) (xs : List ℕ) → length xs ≡ n → summed xs xs ≡ replicate n 0
unfolding summed
summed_same zero [] e = refl
summed_same zero (x ∷ xs) e = absurd (omega arith)
summed_same (suc n) [] e = absurd (omega arith)
summed_same (suc n) (x ∷ xs) e =
    let even : (x + x) % 2 ≡ 0 = omega arith in
    rw (even, summed_same n xs (omega arith))

-- What is added twice is gone.
pub summed_twice : (xs ys : List ℕ) → AllBits xs → AllBits ys → length ys ≤ length xs → summed xs (summed xs ys) ≡ ys
unfolding AllBits summed
summed_twice [] [] h k l = refl
summed_twice [] (y ∷ ys) h k l = absurd (omega arith)
summed_twice (x ∷ xs) [] h k l = refl
summed_twice (x ∷ xs) (y ∷ ys) h k l =
    let same : (x + (x + y) % 2) % 2 ≡ y = omega (arith, h.0, k.0) in
    rw (same, summed_twice xs ys h.1 k.1 (omega arith))

-- ---- Differences

pub alike : (x y : ℕ) → x ≡ y → unlike x y ≡ 0
alike x y e = rw (eq-eqb x y e)

pub not_alike : (x y : ℕ) → (x ≡ y → ⊥) → unlike x y ≡ 1
not_alike x y other = rw (ne_eqb x y other)

pub unlike_most : (x y : ℕ) → unlike x y ≤ 1
unlike_most x y = equal_or_not x y (λ e. omega (arith, alike x y e)) (λ other. omega (arith, not_alike x y other))

-- Of two different bits, any bit is unlike one.
pub unlike_others : (x y z : ℕ) → x + y ≡ 1 → z < 2 → unlike x z + unlike y z ≡ 1
unlike_others x y z e h =
    equal_or_not x z
    (λ same. omega (arith, alike x z same, not_alike y z (λ both. omega arith)))
    (λ other. omega (arith, not_alike x z other, alike y z (omega arith)))

unlike_triangle : (x y z : ℕ) → unlike x z ≤ unlike x y + unlike y z
unlike_triangle x y z =
    equal_or_not x y
    (λ e. rw e (omega arith))
    (λ other. omega (arith, not_alike x y other, unlike_most x z))

unlike_sym : (x y : ℕ) → unlike x y ≡ unlike y x
unlike_sym x y =
    equal_or_not x y
    (λ e. rw e)
    (λ other. not_alike x y other ∙ sym (not_alike y x (λ e. other (sym e))))

-- The same bit added to both changes nothing.
unlike_summed : (x y z : ℕ) → x < 2 → y < 2 → z < 2 → unlike ((x + y) % 2) ((y + z) % 2) ≡ unlike x z
unlike_summed x y z h k l =
    equal_or_not x z
    (λ e. let same : (x + y) % 2 ≡ (y + z) % 2 = omega arith in alike ((x + y) % 2) ((y + z) % 2) same ∙ sym (alike x z e))
    (λ other. not_alike ((x + y) % 2) ((y + z) % 2) (λ same. other (omega arith)) ∙ sym (not_alike x z other))

pub differences_sym : (xs ys : List ℕ) → differences xs ys ≡ differences ys xs
unfolding differences
differences_sym [] [] = refl
differences_sym [] (y ∷ ys) = refl
differences_sym (x ∷ xs) [] = refl
differences_sym (x ∷ xs) (y ∷ ys) = rw (unlike_sym x y, differences_sym xs ys)

-- Lists of the same length without any are the same.
pub differences_zero : (xs ys : List ℕ) → length xs ≡ length ys → differences xs ys ≡ 0 → xs ≡ ys
unfolding differences
differences_zero [] [] e none = refl
differences_zero [] (y ∷ ys) e none = absurd (omega arith)
differences_zero (x ∷ xs) [] e none = absurd (omega arith)
differences_zero (x ∷ xs) (y ∷ ys) e none =
    equal_or_not x y
    (λ same. rw (same, differences_zero xs ys (omega arith) (omega (arith, alike x y same))))
    (λ other. absurd (omega (arith, not_alike x y other)))

-- The triangle inequality, for a list in the middle that is long enough.
pub triangle : (xs ys zs : List ℕ) → length xs ≤ length ys → differences xs zs ≤ differences xs ys + differences ys zs
unfolding differences
triangle [] ys zs h = omega arith
triangle (x ∷ xs) [] zs h = absurd (omega arith)
triangle (x ∷ xs) (y ∷ ys) [] h = omega arith
triangle (x ∷ xs) (y ∷ ys) (z ∷ zs) h = omega (arith, unlike_triangle x y z, triangle xs ys zs (omega arith))

-- The same bits added to both, as far as the first goes, change nothing.
pub differences_summed : (xs ys more zs : List ℕ) → length xs ≡ length ys → AllBits xs → AllBits ys → AllBits zs
    → differences (summed xs ys) (summed (ys ++ more) zs) ≡ differences xs zs
unfolding AllBits summed differences
differences_summed [] [] more zs e h k l = refl
differences_summed [] (y ∷ ys) more zs e h k l = absurd (omega arith)
differences_summed (x ∷ xs) [] more zs e h k l = absurd (omega arith)
differences_summed (x ∷ xs) (y ∷ ys) more [] e h k l = refl
differences_summed (x ∷ xs) (y ∷ ys) more (z ∷ zs) e h k l =
    rw (unlike_summed x y z h.0 k.0 l.0, differences_summed xs ys more zs (omega arith) h.1 k.1 l.1)

-- A longer list has no fewer.
pub differences_grow : (xs more ys : List ℕ) → differences xs ys ≤ differences (xs ++ more) ys
unfolding differences
differences_grow [] more ys = omega arith
differences_grow (x ∷ xs) more [] = omega arith
differences_grow (x ∷ xs) more (y ∷ ys) = omega (arith, differences_grow xs more ys)

-- What is longer than the first list doesn't count.
pub differences_longer : (xs ys more : List ℕ) → length xs ≤ length ys → differences xs (ys ++ more) ≡ differences xs ys
unfolding differences
differences_longer [] ys more h = refl
differences_longer (x ∷ xs) [] more h = absurd (omega arith)
differences_longer (x ∷ xs) (y ∷ ys) more h = rw (differences_longer xs ys more (omega arith))

-- Of two lists one after the other, the second meets what the first leaves.
pub differences_append : (xs more ys : List ℕ) → differences (xs ++ more) ys ≡ differences xs ys + differences more (drop (length xs) ys)
unfolding differences
differences_append [] more ys = omega arith
differences_append (x ∷ xs) more [] = omega (arith, differences_sym more [])
differences_append (x ∷ xs) more (y ∷ ys) = omega (arith, differences_append xs more ys)

-- They are counted by places.
pub differences_counted : (n : ℕ) (xs ys : List ℕ) → length xs ≡ n → length ys ≡ n
    → differences xs ys ≡ count_below n (λ i. not (eqb (get_or xs i 0) (get_or ys i 0)))
unfolding differences
differences_counted zero [] [] e f = sym (count_none 0 (λ i. not (eqb 0 0)) (λ i h. absurd (omega arith)))
differences_counted zero [] (y ∷ ys) e f = absurd (omega arith)
differences_counted zero (x ∷ xs) ys e f = absurd (omega arith)
differences_counted (suc n) [] ys e f = absurd (omega arith)
differences_counted (suc n) (x ∷ xs) [] e f = absurd (omega arith)
differences_counted (suc n) (x ∷ xs) (y ∷ ys) e f =
    ap₂ (λ (a b : ℕ). a + b) (sym (cond_not (eqb x y))) (differences_counted n xs ys (omega arith) (omega arith))
    ∙ sym (count_first n (λ i. not (eqb (get_or (x ∷ xs) i 0) (get_or (y ∷ ys) i 0))))
  where
    cond_not : (t : Bool) → cond {A = ℕ} (not t) 1 0 ≡ cond t 0 1
    cond_not true = refl
    cond_not false = refl
