-- The laws of mixed-radix numerals: the bound, digits in range, the two inverses, injectivity, a number that is
-- written in one list of radices and read in another, what is left above the highest digit, numerals side by side,
-- and the other way round.
use mathlib.Core.Path.{◌≡◌, refl, sym, ap, ◌∙◌, subst}
use Prim.Native.Nat.{ℕ, zero, suc, ◌+◌, ◌*◌, ◌/◌, ◌%◌, ◌^◌, ◌<◌}
use native.Mathlib.Nat.{add_assoc, add-mul, mul_assoc, mul_comm, mul-one, one-mul, zero-mul, zero-add, mul-pos, mod-lt, mod-eq_of_lt, mul-add-div_right, mul-add-mod_self_right, div-lt_iff_lt-mul, div-eq_of_lt, div-div-eq-div-mul, pow-zero, pow-succ'}
use native.Mathlib.Omega.{arith}
use mathlib.Core.List.{List, [], ◌∷◌, ◌++◌, reverse_aux, reverse}
use lib.ListN.{length, replicate}
use lib.Arith.{digits_lt, digits_div, mod-mul}
use mathlib.Core.Logic.{◌↔◌}
use Rattle.radix.specs.Numeral.{Digits, Positive, count, number_from, number_of, digits_of}

-- ---- Radices and digits

pub digits_length : (rs ds : List ℕ) → Digits rs ds → length ds ≡ length rs
unfolding Digits
digits_length [] [] h = refl
digits_length [] (d ∷ ds) h = absurd h
digits_length (r ∷ rs) [] h = absurd h
digits_length (r ∷ rs) (d ∷ ds) h = ap suc (digits_length rs ds h.1)

-- Where each digit is below its radix, no radix is 0.
pub digits_positive : (rs ds : List ℕ) → Digits rs ds → Positive rs
unfolding Digits Positive
digits_positive [] [] h = tt
digits_positive [] (d ∷ ds) h = absurd h
digits_positive (r ∷ rs) [] h = absurd h
digits_positive (r ∷ rs) (d ∷ ds) h = (omega arith, digits_positive rs ds h.1)

pub count_positive : (rs : List ℕ) → Positive rs → 0 < count rs
unfolding Positive count
count_positive [] h = omega arith
count_positive (r ∷ rs) h = mul-pos h.0 (count_positive rs h.1)

-- Of one radix, n times.
pub count_same : (n r : ℕ) → count (replicate n r) ≡ r ^ n
unfolding count
count_same zero r = sym (pow-zero r)
count_same (suc n) r = rw (count_same n r, pow-succ' r n)

-- ---- What the digits write

regroup : (n r d c p : ℕ) → (n * r + d) * c + p ≡ n * (r * c) + ((0 * r + d) * c + p)
regroup n r d c p = simp (zero-mul, zero-add, add-mul, mul_assoc, add_assoc)

-- A number in front counts as many times as the radices have numerals.
pub number_from_front : (n : ℕ) (rs ds : List ℕ) → Digits rs ds → number_from n rs ds ≡ n * count rs + number_of rs ds
unfolding Digits count number_from number_of
number_from_front n [] [] h = omega arith
number_from_front n [] (d ∷ ds) h = absurd h
number_from_front n (r ∷ rs) [] h = absurd h
number_from_front n (r ∷ rs) (d ∷ ds) h =
    rw (number_from_front (n * r + d) rs ds h.1, number_from_front (0 * r + d) rs ds h.1) (regroup n r d (count rs) (number_from 0 rs ds))

-- The highest digit counts as many times as the radices after it have numerals.
number_of_cons : (r d : ℕ) (rs ds : List ℕ) → Digits rs ds → number_of (r ∷ rs) (d ∷ ds) ≡ d * count rs + number_of rs ds
unfolding number_of number_from
number_of_cons r d rs ds h = rw (zero-mul, zero-add) (number_from_front d rs ds h)

pub number_below : (rs ds : List ℕ) → Digits rs ds → number_of rs ds < count rs
unfolding Digits count number_of number_from
number_below [] [] h = omega arith
number_below [] (d ∷ ds) h = absurd h
number_below (r ∷ rs) [] h = absurd h
number_below (r ∷ rs) (d ∷ ds) h =
    subst (λ (n : ℕ). n < r * count rs) (sym (number_of_cons r d rs ds h.1)) (digits_lt h.0 (number_below rs ds h.1))

-- ---- The digits of a number

-- Every digit is below its radix.
pub digits_in_range : (rs : List ℕ) (n : ℕ) → Positive rs → Digits rs (digits_of rs n)
unfolding Digits Positive digits_of
digits_in_range [] n h = tt
digits_in_range (r ∷ rs) n h = (mod-lt (n / count rs) h.0, digits_in_range rs n h.1)

-- Only what is below the highest digit's end shows in the digits.
pub digits_of_front : (rs : List ℕ) (k n : ℕ) → Positive rs → digits_of rs (k * count rs + n) ≡ digits_of rs n
unfolding Positive count digits_of
digits_of_front [] k n h = refl
digits_of_front (r ∷ rs) k n h =
    let c : 0 < count rs = count_positive rs h.1 in
    rw (← mul_assoc k r (count rs), mul-add-div_right c, mul-add-mod_self_right, digits_of_front rs (k * r) n h.1)

-- ---- Inverse both ways

pub digits_of_number_of : (rs ds : List ℕ) → Digits rs ds → digits_of rs (number_of rs ds) ≡ ds
unfolding Digits digits_of
digits_of_number_of [] [] h = refl
digits_of_number_of [] (d ∷ ds) h = absurd h
digits_of_number_of (r ∷ rs) [] h = absurd h
digits_of_number_of (r ∷ rs) (d ∷ ds) h =
    rw (
      number_of_cons r d rs ds h.1,
      digits_div d (number_below rs ds h.1),
      mod-eq_of_lt h.0,
      digits_of_front rs d (number_of rs ds) (digits_positive rs ds h.1),
      digits_of_number_of rs ds h.1,
    )

-- For any number, packing its digits gives the number modulo the count.
pub number_of_digits_of_mod : (rs : List ℕ) (n : ℕ) → Positive rs → number_of rs (digits_of rs n) ≡ n % count rs
unfolding Positive count number_of number_from digits_of
number_of_digits_of_mod [] n h = omega arith
number_of_digits_of_mod (r ∷ rs) n h =
    rw (
      number_of_cons r (n / count rs % r) rs (digits_of rs n) (digits_in_range rs n h.1),
      number_of_digits_of_mod rs n h.1,
      mod-mul n h.0 (count_positive rs h.1),
    )

pub number_of_digits_of : (rs : List ℕ) {n : ℕ} → Positive rs → n < count rs → number_of rs (digits_of rs n) ≡ n
number_of_digits_of rs {n} h below = number_of_digits_of_mod rs n h ∙ mod-eq_of_lt below

-- ---- Consequences

-- Two numerals in the same radices that write one number are the same.
pub number_of_injective : (rs ds es : List ℕ) → Digits rs ds → Digits rs es → number_of rs ds ≡ number_of rs es → ds ≡ es
number_of_injective rs ds es h k e = sym (digits_of_number_of rs ds h) ∙ ap (digits_of rs) e ∙ digits_of_number_of rs es k

-- A number that is written in one list of radices, and read and written again in another that has room for it, comes back.
pub digits_of_repacked : (rs ss ds : List ℕ) → Digits rs ds → Positive ss → number_of rs ds < count ss
    → digits_of rs (number_of ss (digits_of ss (number_of rs ds))) ≡ ds
digits_of_repacked rs ss ds h k room = ap (digits_of rs) (number_of_digits_of ss k room) ∙ digits_of_number_of rs ds h

-- What is left above the highest digit is 0 exactly for the numbers that have a numeral.
pub rest_zero : (rs : List ℕ) (n : ℕ) → Positive rs → (n / count rs ≡ 0) ↔ (n < count rs)
rest_zero rs n h =
    let c : 0 < count rs = count_positive rs h in (
      λ (e : n / count rs ≡ 0). subst (λ (k : ℕ). n < k) (one-mul (count rs)) ((div-lt_iff_lt-mul {x = n} {y = 1} c).0 (omega arith)),
      λ (b : n < count rs). div-eq_of_lt b,
    )

-- ---- Numerals side by side, and the other way round

pub count_append : (rs ss : List ℕ) → count (rs ++ ss) ≡ count rs * count ss
unfolding count
count_append [] ss = sym (one-mul (count ss))
count_append (r ∷ rs) ss = rw (count_append rs ss) (sym (mul_assoc r (count rs) (count ss)))

pub digits_append : (rs ss ds es : List ℕ) → Digits rs ds → Digits ss es → Digits (rs ++ ss) (ds ++ es)
unfolding Digits
digits_append [] ss [] es h k = k
digits_append [] ss (d ∷ ds) es h k = absurd h
digits_append (r ∷ rs) ss [] es h k = absurd h
digits_append (r ∷ rs) ss (d ∷ ds) es h k = (h.0, digits_append rs ss ds es h.1 k)

-- The later digits go on from the number of the former.
number_from_append : (n : ℕ) (rs ss ds es : List ℕ) → Digits rs ds → number_from n (rs ++ ss) (ds ++ es) ≡ number_from (number_from n rs ds) ss es
unfolding Digits number_from
number_from_append n [] ss [] es h = refl
number_from_append n [] ss (d ∷ ds) es h = absurd h
number_from_append n (r ∷ rs) ss [] es h = absurd h
number_from_append n (r ∷ rs) ss (d ∷ ds) es h = number_from_append (n * r + d) rs ss ds es h.1

pub number_of_append : (rs ss ds es : List ℕ) → Digits rs ds → Digits ss es
    → number_of (rs ++ ss) (ds ++ es) ≡ number_of rs ds * count ss + number_of ss es
unfolding number_of
number_of_append rs ss ds es h k = number_from_append 0 rs ss ds es h ∙ number_from_front (number_from 0 rs ds) ss es k

pub digits_of_append : (rs ss : List ℕ) (n : ℕ) → digits_of (rs ++ ss) n ≡ digits_of rs (n / count ss) ++ digits_of ss n
unfolding digits_of
digits_of_append [] ss n = refl
digits_of_append (r ∷ rs) ss n =
    let parts : n / count (rs ++ ss) ≡ n / count ss / count rs =
    ap (λ (c : ℕ). n / c) (count_append rs ss ∙ mul_comm (count rs) (count ss)) ∙ sym (div-div-eq-div-mul n (count ss) (count rs)) in
    rw (parts, digits_of_append rs ss n)

pub positive_append : (rs ss : List ℕ) → Positive rs → Positive ss → Positive (rs ++ ss)
unfolding Positive
positive_append [] ss h k = k
positive_append (r ∷ rs) ss h k = (h.0, positive_append rs ss h.1 k)

count_reverse_aux : (rs ss : List ℕ) → count (reverse_aux rs ss) ≡ count rs * count ss
unfolding count
count_reverse_aux [] ss = sym (one-mul (count ss))
count_reverse_aux (r ∷ rs) ss =
    count_reverse_aux rs (r ∷ ss) ∙ sym (mul_assoc (count rs) r (count ss)) ∙ ap (λ (c : ℕ). c * count ss) (mul_comm (count rs) r)

pub count_reverse : (rs : List ℕ) → count (reverse rs) ≡ count rs
unfolding count
count_reverse rs = count_reverse_aux rs [] ∙ mul-one (count rs)

digits_reverse_aux : (rs ss ds es : List ℕ) → Digits rs ds → Digits ss es → Digits (reverse_aux rs ss) (reverse_aux ds es)
unfolding Digits
digits_reverse_aux [] ss [] es h k = k
digits_reverse_aux [] ss (d ∷ ds) es h k = absurd h
digits_reverse_aux (r ∷ rs) ss [] es h k = absurd h
digits_reverse_aux (r ∷ rs) ss (d ∷ ds) es h k = digits_reverse_aux rs (r ∷ ss) ds (d ∷ es) h.1 (h.0, k)

pub digits_reverse : (rs ds : List ℕ) → Digits rs ds → Digits (reverse rs) (reverse ds)
unfolding Digits
digits_reverse rs ds h = digits_reverse_aux rs [] ds [] h tt
