-- Laws of `cond` and of tests, for definitions that test and refuse in turn and answer last.
use mathlib.Core.Path.{◌≡◌, refl}
use Prim.Native.Nat.{ℕ, ◌≤◌, ◌<◌}
use mathlib.Core.Bool.{Bool, true, false, true≢false, false≢true, cond, ◌&&◌, ◌||◌}
use lib.Dec.{eqb, leb, ltb}
use Rattle.basics.specs.Test.{between}
use borrow.Author.Tests.{le-leb, lt-leb, leb-true, ltb-true, ltb-false, eqb-true, eqb-false}

-- ---- Tests

pub both_true : (a b : Bool) → (a && b) ≡ true → (a ≡ true) × (b ≡ true)
both_true true b e = (refl, e)
both_true false b e = absurd (false≢true e)

pub both_false : (a b : Bool) → (a || b) ≡ false → (a ≡ false) × (b ≡ false)
both_false true b e = absurd (true≢false e)
both_false false b e = (refl, e)

pub between_true : (low high b : ℕ) → low ≤ b → b ≤ high → between low high b ≡ true
between_true low high b h k = rw (le-leb low b h, le-leb b high k)

pub between_below : (low high b : ℕ) → b < low → between low high b ≡ false
between_below low high b h = rw (lt-leb low b h)

pub between_above : (low high b : ℕ) → low ≤ b → high < b → between low high b ≡ false
between_above low high b h k = rw (le-leb low b h, lt-leb b high k)

pub between_range : (low high b : ℕ) → between low high b ≡ true → (low ≤ b) × (b ≤ high)
between_range low high b e =
    let tests = both_true (leb low b) (leb b high) e in
    (leb-true low b tests.0, leb-true b high tests.1)

-- ---- Choices

module _ {A : Type 0} (t : Bool) {x y z : A} where
  -- A choice that isn't its first case is its second, and the test failed.
  pub cond_passed : cond t x y ≡ z → (x ≡ z → ⊥) → (t ≡ false) × (y ≡ z)
  cond_passed e other = go t e
    where
      go : (t : Bool) → cond t x y ≡ z → (t ≡ false) × (y ≡ z)
      go true e = absurd (other e)
      go false e = (refl, e)

  -- A choice that isn't its second case is its first, and the test held.
  pub cond_held : cond t x y ≡ z → (y ≡ z → ⊥) → (t ≡ true) × (x ≡ z)
  cond_held e other = go t e
    where
      go : (t : Bool) → cond t x y ≡ z → (t ≡ true) × (x ≡ z)
      go true e = (refl, e)
      go false e = absurd (other e)

-- What holds of both cases holds of a choice.
pub cond_both : {A : Type 0} (P : A → Type 0) (t : Bool) {x y : A} → P x → P y → P (cond t x y)
cond_both P true p q = p
cond_both P false p q = q

-- ---- Proof by cases of a test

pub by_test : {A : Type 0} (t : Bool) → (t ≡ true → A) → (t ≡ false → A) → A
by_test true f g = f refl
by_test false f g = g refl

module _ {A : Type 0} (m n : ℕ) where
  pub below_or_not : (m < n → A) → (n ≤ m → A) → A
  below_or_not f g = by_test (ltb m n) (λ e. f (ltb-true m n e)) (λ e. g (ltb-false m n e))

  pub equal_or_not : (m ≡ n → A) → ((m ≡ n → ⊥) → A) → A
  equal_or_not f g = by_test (eqb m n) (λ e. f (eqb-true m n e)) (λ e. g (eqb-false m n e))
