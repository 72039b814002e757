-- Laws of sums, counts, the last that passes and least values over the numbers below n.
use mathlib.Core.Path.{◌≡◌, refl, sym, ap, ◌∙◌}
use Prim.Native.Nat.{ℕ, zero, suc, ◌+◌, ◌-◌, ◌≤◌, ◌<◌}
use native.Mathlib.Nat.{add-suc, add-zero, zero-add}
use native.Mathlib.Numerals.{add-one}
use native.Mathlib.Omega.{arith}
use mathlib.Core.Bool.{Bool, true, false, true≢false, cond}
use lib.Dec.{eqb}
use borrow.Author.Tests.{eq-eqb, ne_eqb}
use Rattle.basics.specs.Below.{sum_below, count_below, last_below, least_up_to}
use Rattle.basics.proofs.Choice.{by_test, below_or_not, equal_or_not}

-- ---- Sums

pub sum_same : (n : ℕ) (f g : ℕ → ℕ) → ((i : ℕ) → i < n → f i ≡ g i) → sum_below n f ≡ sum_below n g
unfolding sum_below
sum_same zero f g h = refl
sum_same (suc n) f g h = rw (sum_same n f g (λ i k. h i (omega arith)), h n (omega arith))

pub sum_le : (n : ℕ) (f g : ℕ → ℕ) → ((i : ℕ) → i < n → f i ≤ g i) → sum_below n f ≤ sum_below n g
unfolding sum_below
sum_le zero f g h = omega arith
sum_le (suc n) f g h = omega (arith, sum_le n f g (λ i k. h i (omega arith)), h n (omega arith))

pub sum_zero : (n : ℕ) → sum_below n (λ i. 0) ≡ 0
unfolding sum_below
sum_zero zero = refl
sum_zero (suc n) = rw (sum_zero n)

pub sum_plus : (n : ℕ) (f g : ℕ → ℕ) → sum_below n (λ i. f i + g i) ≡ sum_below n f + sum_below n g
unfolding sum_below
sum_plus zero f g = refl
sum_plus (suc n) f g = omega (arith, sum_plus n f g)

-- The numbers below m, and the n after them.
sum_append : (m n : ℕ) (f : ℕ → ℕ) → sum_below (m + n) f ≡ sum_below m f + sum_below n (λ i. f (m + i))
unfolding sum_below
sum_append m zero f = rw (add-zero m, add-zero (sum_below m f))
sum_append m (suc n) f = rw (add-suc m n) (omega (arith, sum_append m n f))

-- The first, and those after it.
pub sum_first : (n : ℕ) (f : ℕ → ℕ) → sum_below (suc n) f ≡ f 0 + sum_below n (λ i. f (suc i))
unfolding sum_below
sum_first zero f = omega arith
sum_first (suc n) f = omega (arith, sum_first n f)

-- A sum of sums, in either order.
sum_swap : (m n : ℕ) (f : ℕ → ℕ → ℕ) → sum_below m (λ i. sum_below n (λ j. f i j)) ≡ sum_below n (λ j. sum_below m (λ i. f i j))
unfolding sum_below
sum_swap zero n f = sym (sum_zero n)
sum_swap (suc m) n f =
    ap (λ (s : ℕ). s + sum_below n (f m)) (sum_swap m n f) ∙ sym (sum_plus n (λ j. sum_below m (λ i. f i j)) (f m))

-- Where all are 0, so is the sum.
sum_none : (n : ℕ) (f : ℕ → ℕ) → ((i : ℕ) → i < n → f i ≡ 0) → sum_below n f ≡ 0
sum_none n f h = sum_same n f (λ i. 0) h ∙ sum_zero n

-- Where all but one are 0, the sum is that one.
sum_single : (n : ℕ) (f : ℕ → ℕ) (at : ℕ) → at < n → ((i : ℕ) → i < n → (i ≡ at → ⊥) → f i ≡ 0) → sum_below n f ≡ f at
unfolding sum_below
sum_single zero f at h others = absurd (omega arith)
sum_single (suc n) f at h others =
    equal_or_not at n
    (λ last. rw (sum_none n f (λ i k. others i (omega arith) (λ same. absurd (omega arith))), last) (zero-add (f n)))
    (λ before.
    let ends : f n ≡ 0 = others n (omega arith) (λ same. before (sym same)) in
    let rest : sum_below n f ≡ f at = sum_single n f at (omega arith) (λ i k. others i (omega arith)) in
    omega arith)

-- Where all are the same but one, which is more by one, the sum is too.
pub sum_raised : (n : ℕ) (f g : ℕ → ℕ) (at : ℕ) → at < n → f at ≡ g at + 1 → ((i : ℕ) → i < n → (i ≡ at → ⊥) → f i ≡ g i)
    → sum_below n f ≡ sum_below n g + 1
unfolding sum_below
sum_raised zero f g at h e others = absurd (omega arith)
sum_raised (suc n) f g at h e others =
    equal_or_not at n
    (λ last.
    let rest = sum_same n f g (λ i k. others i (omega arith) (λ same. absurd (omega arith))) in
    let more : f n ≡ g n + 1 = rw last at e in
    omega arith)
    (λ before.
    let rest = sum_raised n f g at (omega arith) e (λ i k. others i (omega arith)) in
    omega (arith, others n (omega arith) (λ same. before (sym same))))

-- A sum in another order is the same: f takes the numbers below n to the numbers below n, and g takes each back.
module _ (n : ℕ) (f g : ℕ → ℕ) (f_below : (i : ℕ) → i < n → f i < n) (g_f : (i : ℕ) → i < n → g (f i) ≡ i)
    (g_below : (j : ℕ) → j < n → g j < n) (f_g : (j : ℕ) → j < n → f (g j) ≡ j) (h : ℕ → ℕ) where
  only : ℕ → ℕ → ℕ
  only i j = cond (eqb (f i) j) (h j) 0

  by_value : (i : ℕ) → i < n → h (f i) ≡ sum_below n (only i)
  unfolding only
  by_value i k =
      sym (sum_single n (only i) (f i) (f_below i k) (λ j l other. rw (ne_eqb (f i) j (λ same. other (sym same)))) ∙ rw (eq-eqb (f i) (f i) refl))

  by_index : (j : ℕ) → j < n → sum_below n (λ i. only i j) ≡ h j
  unfolding only
  by_index j k =
      sum_single n (λ i. only i j) (g j) (g_below j k) (λ i l other. rw (ne_eqb (f i) j (λ same. other (sym (g_f i l) ∙ ap g same))))
      ∙ rw (eq-eqb (f (g j)) j (f_g j k))

  sum_reordered : sum_below n (λ i. h (f i)) ≡ sum_below n h
  sum_reordered = sum_same n (λ i. h (f i)) (λ i. sum_below n (only i)) by_value ∙ sum_swap n n only ∙ sum_same n (λ j. sum_below n (λ i. only i j)) h by_index

-- ---- Counts

pub count_same : (n : ℕ) (t u : ℕ → Bool) → ((i : ℕ) → i < n → t i ≡ u i) → count_below n t ≡ count_below n u
unfolding count_below
count_same n t u h = sum_same n (λ i. cond (t i) 1 0) (λ i. cond (u i) 1 0) (λ i k. rw (h i k))

pub count_le : (n : ℕ) (t u : ℕ → Bool) → ((i : ℕ) → i < n → t i ≡ true → u i ≡ true) → count_below n t ≤ count_below n u
unfolding count_below
count_le n t u h =
    sum_le n (λ i. cond (t i) 1 0) (λ i. cond (u i) 1 0)
    (λ i k. by_test (t i) (λ passed. rw (passed, h i k passed) (omega arith)) (λ failed. rw failed (omega arith)))

pub count_none : (n : ℕ) (t : ℕ → Bool) → ((i : ℕ) → i < n → t i ≡ false) → count_below n t ≡ 0
unfolding count_below
count_none n t h = sum_none n (λ i. cond (t i) 1 0) (λ i k. rw (h i k))

pub count_append : (m n : ℕ) (t : ℕ → Bool) → count_below (m + n) t ≡ count_below m t + count_below n (λ i. t (m + i))
unfolding count_below
count_append m n t = sum_append m n (λ i. cond (t i) 1 0)

pub count_first : (n : ℕ) (t : ℕ → Bool) → count_below (suc n) t ≡ cond (t 0) 1 0 + count_below n (λ i. t (suc i))
unfolding count_below
count_first n t = sum_first n (λ i. cond (t i) 1 0)

pub count_of_one : (t : ℕ → Bool) → count_below 1 t ≡ cond (t 0) 1 0
unfolding count_below sum_below
count_of_one t = zero-add (cond (t 0) 1 0)

pub count_reordered : (n : ℕ) (f g : ℕ → ℕ) → ((i : ℕ) → i < n → f i < n) → ((i : ℕ) → i < n → g (f i) ≡ i)
    → ((j : ℕ) → j < n → g j < n) → ((j : ℕ) → j < n → f (g j) ≡ j) → (t : ℕ → Bool) → count_below n (λ i. t (f i)) ≡ count_below n t
unfolding count_below
count_reordered n f g f_below g_f g_below f_g t = sum_reordered n f g f_below g_f g_below f_g (λ i. cond (t i) 1 0)

count_skipped : (n : ℕ) (t : ℕ → Bool) → t n ≡ false → count_below (suc n) t ≡ count_below n t
unfolding count_below sum_below
count_skipped n t e = rw e (add-zero (sum_below n (λ i. cond (t i) 1 0)))

count_last : (n : ℕ) (t : ℕ → Bool) → t n ≡ true → count_below (suc n) t ≡ count_below n t + 1
unfolding count_below sum_below
count_last n t e = rw e

pub count_kept : (n : ℕ) (t : ℕ → Bool) → t n ≡ false → count_below (n + 1) t ≡ count_below n t
count_kept n t e = rw (add-one n) (count_skipped n t e)

pub count_raised : (n : ℕ) (t : ℕ → Bool) → t n ≡ true → count_below (n + 1) t ≡ count_below n t + 1
count_raised n t e = rw (add-one n) (count_last n t e)

-- Below a higher bound no fewer pass.
pub count_up_to : (m n : ℕ) (t : ℕ → Bool) → m ≤ n → count_below m t ≤ count_below n t
count_up_to m n t h =
    let all : m + (n - m) ≡ n = omega arith in
    omega (arith, rw all at (count_append m (n - m) t))

-- One that passes is counted, and so are two.
pub count_one : (n : ℕ) (t : ℕ → Bool) (at : ℕ) → at < n → t at ≡ true → 1 ≤ count_below n t
count_one zero t at h e = absurd (omega arith)
count_one (suc n) t at h e =
    equal_or_not at n
    (λ last. let here : t n ≡ true = rw last at e in omega (arith, count_last n t here))
    (λ before. omega (arith, count_one n t at (omega arith) e, count_up_to n (suc n) t (omega arith)))

pub count_two : (n : ℕ) (t : ℕ → Bool) (i j : ℕ) → i < j → j < n → t i ≡ true → t j ≡ true → 2 ≤ count_below n t
count_two zero t i j h k e f = absurd (omega arith)
count_two (suc n) t i j h k e f =
    equal_or_not j n
    (λ last. let here : t n ≡ true = rw last at f in omega (arith, count_last n t here, count_one n t i (omega arith) e))
    (λ before. omega (arith, count_two n t i j h (omega arith) e f, count_up_to n (suc n) t (omega arith)))

-- What is counted is found.
count_found : (n : ℕ) (t : ℕ → Bool) → 1 ≤ count_below n t → (i : ℕ) × ((i < n) × (t i ≡ true))
count_found zero t h = absurd (omega (arith, count_none 0 t (λ i k. absurd (omega arith))))
count_found (suc n) t h =
    by_test (t n)
    (λ passed. (n, (omega arith, passed)))
    (λ failed.
    let found = count_found n t (omega (arith, count_skipped n t failed)) in
    (found.0, (omega (arith, found.1.0), found.1.1)))

pub count_found_two : (n : ℕ) (t : ℕ → Bool) → 2 ≤ count_below n t
    → (i : ℕ) × ((j : ℕ) × ((i < j) × ((j < n) × ((t i ≡ true) × (t j ≡ true)))))
count_found_two zero t h = absurd (omega (arith, count_none 0 t (λ i k. absurd (omega arith))))
count_found_two (suc n) t h =
    by_test (t n)
    (λ passed.
    let found = count_found n t (omega (arith, count_last n t passed)) in
    (found.0, (n, (found.1.0, (omega arith, (found.1.1, passed))))))
    (λ failed.
    let found = count_found_two n t (omega (arith, count_skipped n t failed)) in
    (found.0, (found.1.0, (found.1.1.0, (omega (arith, found.1.1.1.0), found.1.1.1.1)))))

-- Where no two are counted, only one passes.
pub count_only : (n : ℕ) (t : ℕ → Bool) → count_below n t ≤ 1 → (i j : ℕ) → i < n → j < n → t i ≡ true → t j ≡ true → i ≡ j
count_only n t one i j h k e f =
    below_or_not i j
    (λ l. absurd (omega (arith, count_two n t i j l k e f)))
    (λ l. below_or_not j i (λ m. absurd (omega (arith, count_two n t j i m h f e))) (λ m. omega arith))

-- Where only one passes, one is counted.
pub count_single : (n : ℕ) (t : ℕ → Bool) (at : ℕ) → at < n → t at ≡ true → ((i : ℕ) → i < n → t i ≡ true → i ≡ at) → count_below n t ≡ 1
unfolding count_below
count_single n t at h e only =
    sum_single n (λ i. cond (t i) 1 0) at h
    (λ i k other. by_test (t i) (λ passed. absurd (other (only i k passed))) (λ failed. rw failed))
    ∙ rw e

-- ---- The last that passes

pub last_single : (n : ℕ) (t : ℕ → Bool) (at : ℕ) → at < n → t at ≡ true → ((i : ℕ) → i < n → t i ≡ true → i ≡ at) → last_below n t ≡ at
unfolding last_below
last_single zero t at h e only = absurd (omega arith)
last_single (suc n) t at h e only =
    by_test (t n)
    (λ passed. rw passed (only n (omega arith) passed))
    (λ failed.
    rw failed
    (equal_or_not at n
    (λ last. absurd (let clash : true ≡ false = sym e ∙ ap t last ∙ failed in true≢false clash))
    (λ before. last_single n t at (omega arith) e (λ i k. only i (omega arith)))))

-- ---- The least value

pub least_below : (n : ℕ) (f : ℕ → ℕ) (i : ℕ) → i ≤ n → least_up_to n f ≤ f i
unfolding least_up_to
least_below zero f i h = let same : i ≡ 0 = omega arith in rw same (omega arith)
least_below (suc n) f i h =
    equal_or_not i (suc n)
    (λ last. rw last (omega arith))
    (λ before. omega (arith, least_below n f i (omega arith)))

-- It is the value of one of them.
pub least_reached : (n : ℕ) (f : ℕ → ℕ) → (i : ℕ) × ((i ≤ n) × (f i ≡ least_up_to n f))
unfolding least_up_to
least_reached zero f = (0, (omega arith, refl))
least_reached (suc n) f =
    let earlier = least_reached n f in
    below_or_not (f (suc n)) (least_up_to n f)
    (λ less. (suc n, (omega arith, omega arith)))
    (λ no_less. (earlier.0, (omega (arith, earlier.1.0), omega (arith, earlier.1.1))))
