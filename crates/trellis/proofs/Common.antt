-- Whether two lists of numbers have nothing in common, computed: both are parted by the lowest bit, again and again, until one is empty.
use mathlib.Core.Path.{◌≡◌, refl, sym, ap, ap₂, ◌∙◌}
use mathlib.Core.Logic.{◌⊎◌, inl, inr}
use Prim.Native.Nat.{ℕ, zero, suc, ◌/◌, ◌%◌}
use native.Mathlib.Omega.{arith}
use mathlib.Core.Bool.{Bool, true, false, false≢true, cond}
use mathlib.Core.List.{List, [], ◌∷◌}
use lib.Dec.{eqb}
use borrow.Author.Tests.{eq-eqb, ne_eqb}
use Rattle.basics.proofs.Choice.{by_test, cond_both, equal_or_not}

-- A number is in a list.
unfoldable pub In : ℕ → List ℕ → Type 0
In x [] = ⊥
In x (y ∷ ys) = (x ≡ y) ⊎ In x ys

-- ---- Computed

-- The halves of the even numbers and those of the odd ones, handed on. The cases of `elim` are computed only where they are taken.
unfoldable pub halved : List ℕ → List ℕ → List ℕ → (List ℕ → List ℕ → Bool) → Bool
halved [] evens odds next = next evens odds
halved (x ∷ xs) evens odds next = elim (x % 2) [ zero ↦ halved xs (x / 2 ∷ evens) odds next | suc n ↦ halved xs evens (x / 2 ∷ odds) next ]

-- A test holds of both lists' evens, and then of their odds.
abbrev both_hold : (List ℕ → List ℕ → Bool) → List ℕ → List ℕ → List ℕ → List ℕ → Bool
both_hold test evens odds others rest = elim (test evens others) [ true ↦ test odds rest | false ↦ false ]

-- One list is empty, or the test holds of both halves.
unfoldable pub parted : (List ℕ → List ℕ → Bool) → List ℕ → List ℕ → Bool
parted test [] ys = true
parted test (x ∷ xs) [] = true
parted test (x ∷ xs) (y ∷ ys) = halved (x ∷ xs) [] [] (λ evens odds. halved (y ∷ ys) [] [] (both_hold test evens odds))

-- They have nothing in common, as so many bits show.
unfoldable pub nothing_common : ℕ → List ℕ → List ℕ → Bool
nothing_common zero xs ys = parted (λ evens others. false) xs ys
nothing_common (suc k) xs ys = parted (nothing_common k) xs ys

-- ---- The halves

-- The halves of the numbers whose lowest bit is the one given, before what was found.
unfoldable halves : ℕ → List ℕ → List ℕ → List ℕ
halves bit [] found = found
halves bit (x ∷ xs) found = cond (eqb (x % 2) bit) (halves bit xs (x / 2 ∷ found)) (halves bit xs found)

module _ (xs : List ℕ) where
  taken : (bit x : ℕ) (found : List ℕ) → x % 2 ≡ bit → halves bit (x ∷ xs) found ≡ halves bit xs (x / 2 ∷ found)
  unfolding halves
  taken bit x found e = rw (eq-eqb (x % 2) bit e)

  passed : (bit x : ℕ) (found : List ℕ) → (x % 2 ≡ bit → ⊥) → halves bit (x ∷ xs) found ≡ halves bit xs found
  unfolding halves
  passed bit x found other = rw (ne_eqb (x % 2) bit other)

-- The two lists that are handed on.
halved_halves : (xs evens odds : List ℕ) (next : List ℕ → List ℕ → Bool) → halved xs evens odds next ≡ next (halves 0 xs evens) (halves 1 xs odds)
unfolding halved halves
halved_halves [] evens odds next = refl
halved_halves (x ∷ xs) evens odds next =
    equal_or_not (x % 2) 0
    (λ even.
    ap chosen even
    ∙ halved_halves xs (x / 2 ∷ evens) odds next
    ∙ sym (ap₂ next (taken xs 0 x evens even) (passed xs 1 x odds (λ odd. omega arith))))
    (λ other.
    let odd : x % 2 ≡ 1 = omega arith in
    ap chosen odd
    ∙ halved_halves xs evens (x / 2 ∷ odds) next
    ∙ sym (ap₂ next (passed xs 0 x evens other) (taken xs 1 x odds odd)))
  where
    chosen : ℕ → Bool
    chosen lowest = elim lowest [ zero ↦ halved xs (x / 2 ∷ evens) odds next | suc n ↦ halved xs evens (x / 2 ∷ odds) next ]

halves_keep : (bit y : ℕ) (xs found : List ℕ) → In y found → In y (halves bit xs found)
unfolding In halves
halves_keep bit y [] found there = there
halves_keep bit y (x ∷ xs) found there =
    cond_both (In y) (eqb (x % 2) bit) (halves_keep bit y xs (x / 2 ∷ found) (inr there)) (halves_keep bit y xs found there)

-- A number's half is among those of its lowest bit.
half_there : (x : ℕ) (xs found : List ℕ) → In x xs → In (x / 2) (halves (x % 2) xs found)
unfolding In
half_there x [] found there = absurd there
half_there x (y ∷ xs) found (inl same) =
    rw (same, taken xs (y % 2) y found refl) (halves_keep (y % 2) (y / 2) xs (y / 2 ∷ found) (inl refl))
half_there x (y ∷ xs) found (inr later) =
    equal_or_not (y % 2) (x % 2)
    (λ same. rw (taken xs (x % 2) y found same) (half_there x xs (y / 2 ∷ found) later))
    (λ other. rw (passed xs (x % 2) y found other) (half_there x xs found later))

-- ---- What is computed is so

module _ (test : List ℕ → List ℕ → Bool) (right : (x : ℕ) (xs ys : List ℕ) → test xs ys ≡ true → In x xs → In x ys → ⊥) (us vs : List ℕ) where
  -- The odds are tested where the evens' test holds.
  abbrev chosen : Bool → Bool
  chosen evens = elim evens [ true ↦ test (halves 1 us []) (halves 1 vs []) | false ↦ false ]

  handed_on : halved us [] [] (λ evens odds. halved vs [] [] (both_hold test evens odds)) ≡ true
      → (test (halves 0 us []) (halves 0 vs []) ≡ true) × (test (halves 1 us []) (halves 1 vs []) ≡ true)
  handed_on e =
      let evens = halves 0 us [] in
      let odds = halves 1 us [] in
      let tested : chosen (test evens (halves 0 vs [])) ≡ true =
      sym
      (halved_halves us [] [] (λ evens odds. halved vs [] [] (both_hold test evens odds))
      ∙ halved_halves vs [] [] (both_hold test evens odds))
      ∙ e in
      by_test (test evens (halves 0 vs []))
      (λ holds. (holds, sym (ap chosen holds) ∙ tested))
      (λ fails. absurd (false≢true (sym (ap chosen fails) ∙ tested)))

  halves_right : (x : ℕ) → (test (halves 0 us []) (halves 0 vs []) ≡ true) × (test (halves 1 us []) (halves 1 vs []) ≡ true) → In x us → In x vs → ⊥
  halves_right x (evens, odds) one other =
      equal_or_not (x % 2) 0
      (λ even. right (x / 2) _ _ evens (rw even at (half_there x us [] one)) (rw even at (half_there x vs [] other)))
      (λ not-even.
      let odd : x % 2 ≡ 1 = omega arith in
      right (x / 2) _ _ odds (rw odd at (half_there x us [] one)) (rw odd at (half_there x vs [] other)))

-- A test that leaves nothing in common in the halves leaves nothing in common.
parted_right : (test : List ℕ → List ℕ → Bool) → ((x : ℕ) (xs ys : List ℕ) → test xs ys ≡ true → In x xs → In x ys → ⊥)
    → (x : ℕ) (xs ys : List ℕ) → parted test xs ys ≡ true → In x xs → In x ys → ⊥
unfolding In parted
parted_right test right x [] ys e one other = one
parted_right test right x (y ∷ xs) [] e one other = other
parted_right test right x (y ∷ xs) (z ∷ ys) e one other =
    halves_right test right (y ∷ xs) (z ∷ ys) x (handed_on test right (y ∷ xs) (z ∷ ys) e) one other

pub never_common : (k x : ℕ) (xs ys : List ℕ) → nothing_common k xs ys ≡ true → In x xs → In x ys → ⊥
unfolding nothing_common
never_common zero x xs ys e = parted_right (λ evens others. false) (λ x xs ys e. absurd (false≢true e)) x xs ys e
never_common (suc k) x xs ys e = parted_right (nothing_common k) (never_common k) x xs ys e
