-- Laws of integers: their order, that of sums, and what a number is above another.
use mathlib.Core.Path.{◌≡◌, refl, sym, ap, ◌∙◌, subst}
use mathlib.Core.Bool.{true, false, true≢false}
use Prim.Native.Nat.{ℕ, zero, suc, ◌+◌, ◌-◌, ◌≤◌, ◌<◌}
use native.Mathlib.Omega.{arith}
use lib.Dec.{T, le→leb, lt→ltb, leb→le}
use lib.IntN.{ℤ, pos, negsuc, neg_ℤ, nat_abs, suc_ℤ, sub_ℕ, ◌+ℤ◌, ◌-ℤ◌, +ℤ_assoc, +ℤ_comm, +ℤ_invr, +ℤ_idl, +ℤ-suc_ℤ, neg_ℤ-+ℤ, -ℤ-+ℤ_cancel}
use lib.Signed.{le_z, non_neg, ◌≤ℤ◌, ◌<ℤ◌, le_z_yes, lt_z_yes, clash_ℤ, pos-nat_abs}
use borrow.Author.Tests.{leb-false, le-ltb, lt-ltb}
use Rattle.basics.proofs.Choice.{below_or_not}

-- ---- The order of numbers and of sums

-- What the test of order says.
pub le_z_true : (a b : ℤ) → le_z a b ≡ true → a ≤ℤ b
le_z_true a b e = le_z_yes (subst T (sym e) tt)

pub le_z_false : (a b : ℤ) → le_z a b ≡ false → b ≤ℤ a
le_z_false (pos a) (pos b) e = le_z_yes (le→leb b a (omega (arith, leb-false a b e)))
le_z_false (pos a) (negsuc b) e = le_z_yes tt
le_z_false (negsuc a) (pos b) e = absurd (true≢false e)
le_z_false (negsuc a) (negsuc b) e = le_z_yes (le→leb a b (omega (arith, leb-false b a e)))

pub pos-≤ : (m n : ℕ) → m ≤ n → pos m ≤ℤ pos n
pos-≤ m n h = le_z_yes (le→leb m n h)

subℕ-mono-≤ : (m n k : ℕ) → m ≤ n → sub_ℕ m k ≤ℤ sub_ℕ n k
subℕ-mono-≤ m n k h =
    below_or_not m k
    (λ m-low. below_or_not n k
    (λ n-low. rw (lt-ltb m k m-low, lt-ltb n k n-low) (le_z_yes (le→leb (k - suc n) (k - suc m) (omega arith))))
    (λ n-high. rw (lt-ltb m k m-low, le-ltb n k n-high) (le_z_yes tt)))
    (λ m-high. rw (le-ltb m k m-high, le-ltb n k (omega arith)) (pos-≤ (m - k) (n - k) (omega arith)))

pub +ℤ-mono-≤ : (a : ℤ) (m n : ℕ) → m ≤ n → (a +ℤ pos m) ≤ℤ (a +ℤ pos n)
+ℤ-mono-≤ (pos a) m n h = pos-≤ (a + m) (a + n) (omega arith)
+ℤ-mono-≤ (negsuc a) m n h = subℕ-mono-≤ m n (suc a) h

-- Below is at most, of the successor.
suc-≤ : (a b : ℤ) → suc_ℤ a ≤ℤ b → a <ℤ b
suc-≤ (pos a) (pos b) h = lt_z_yes h.le
suc-≤ (pos a) (negsuc b) h = absurd h.le
suc-≤ (negsuc a) (pos b) h = lt_z_yes tt
suc-≤ (negsuc zero) (negsuc b) h = absurd h.le
suc-≤ (negsuc (suc a)) (negsuc b) h = lt_z_yes (lt→ltb b (suc a) (omega (arith, leb→le b a h.le)))

pub +ℤ-mono-< : (a : ℤ) (m n : ℕ) → m < n → (a +ℤ pos m) <ℤ (a +ℤ pos n)
+ℤ-mono-< a m n h = suc-≤ _ _ (rw (sym (+ℤ-suc_ℤ a (pos m))) (+ℤ-mono-≤ a (suc m) n h))

-- ---- What a number is above another

pub difference_non_neg : (a b : ℤ) → a ≤ℤ b → T (non_neg (b -ℤ a))
difference_non_neg (pos zero) (pos b) h = tt
difference_non_neg (pos (suc a)) (pos b) h = rw (le-ltb b (suc a) (leb→le (suc a) b h.le)) tt
difference_non_neg (pos a) (negsuc b) h = absurd h.le
difference_non_neg (negsuc a) (pos b) h = tt
difference_non_neg (negsuc a) (negsuc b) h =
    let k : b ≤ a = leb→le b a h.le in
    rw (le-ltb (suc a) (suc b) (omega arith)) tt

pub above : (a b : ℤ) → a ≤ℤ b → a +ℤ pos (nat_abs (b -ℤ a)) ≡ b
above a b h =
    ap (λ (d : ℤ). a +ℤ d) (pos-nat_abs (b -ℤ a) (difference_non_neg a b h))
    ∙ +ℤ_comm a (b -ℤ a)
    ∙ -ℤ-+ℤ_cancel b a

-- Of two numbers above a third, the one that isn't higher isn't further above.
pub +ℤ-cancel-≤ : (a : ℤ) (m n : ℕ) → (a +ℤ pos m) ≤ℤ (a +ℤ pos n) → m ≤ n
+ℤ-cancel-≤ a m n h = below_or_not n m (λ k. clash_ℤ (+ℤ-mono-< a n m k) h) (λ k. k)

pos_difference : (m n : ℕ) → pos m -ℤ pos n ≡ sub_ℕ m n
pos_difference m zero = rw (le-ltb m 0 (omega arith)) (ap pos (omega arith))
pos_difference m (suc n) = refl

-- Two numbers above a third differ by as much as they are above it.
pub +ℤ-difference : (a : ℤ) (m n : ℕ) → (a +ℤ pos m) -ℤ (a +ℤ pos n) ≡ sub_ℕ m n
+ℤ-difference a m n =
    rw (neg_ℤ-+ℤ a (pos n), +ℤ_comm a (pos m), +ℤ_assoc (pos m) a (neg_ℤ a +ℤ neg_ℤ (pos n)), sym (+ℤ_assoc a (neg_ℤ a) (neg_ℤ (pos n))), +ℤ_invr a, +ℤ_idl (neg_ℤ (pos n)))
    (pos_difference m n)

pub nat_abs_above : (a : ℤ) (n : ℕ) → nat_abs ((a +ℤ pos n) -ℤ a) ≡ n
nat_abs_above a n =
    rw (+ℤ_comm a (pos n), +ℤ_assoc (pos n) a (neg_ℤ a), +ℤ_invr a) (omega arith)
