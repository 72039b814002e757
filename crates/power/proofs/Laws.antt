-- Laws of the powers: a legal power and its index are inverse to each other, and none is above 60; past the last index there is 0.
use mathlib.Core.Path.{◌≡◌, refl, ap}
use Prim.Native.Nat.{ℕ, suc, ◌≤◌, ◌<◌}
use native.Mathlib.Omega.{arith}
use mathlib.Core.Bool.{true, not}
use mathlib.Core.List.{List, [], ◌∷◌}
use lib.Dec.{eqb, leb}
use lib.ListN.{length, get_or-eq_default}
use borrow.Author.Tests.{lt-ltb, ltb-true, leb-true, eqb-true, ne_eqb}
use Rattle.std.specs.Prelude.{Some}
use Rattle.basics.specs.Lists.{first_failing, is_other, index_in, some_below}
use Rattle.basics.proofs.Choice.{below_or_not}
use Rattle.basics.proofs.ListLaws.{AllPass, get_d_index_in, index_in_none}
use Rattle.basics.proofs.Tables.{every_at, below_at}
use Rattle.power.specs.Powers.{powers, power_index, power_at, legal_power}

pub power_at_power_index : (power : ℕ) → power_index power < 19 → power_at (power_index power) ≡ power
unfolding power_index power_at powers
power_at_power_index power h = get_d_index_in power powers 0 h

pub power_index_power_at : (index : ℕ) → index < 19 → power_index (power_at index) ≡ index
unfolding power_index power_at powers index_in first_failing
power_index_power_at index h =
    eqb-true _ _ (below_at (λ (i : ℕ). eqb (power_index (power_at i)) i) 19 refl index h)

pub legal_index : (power : ℕ) → legal_power power ≡ true → power_index power < 19
unfolding legal_power powers
legal_index power e = ltb-true _ _ e

-- What `index_of` gives of a legal power.
pub some_index : (power : ℕ) → legal_power power ≡ true → some_below 19 (power_index power) ≡ Some (power_index power)
unfolding some_below
some_index power e = rw (lt-ltb (power_index power) 19 (legal_index power e))

pub legal_power_at : (index : ℕ) → index < 19 → legal_power (power_at index) ≡ true
unfolding legal_power powers
legal_power_at index h = rw (power_index_power_at index h) (lt-ltb index 19 h)

pub legal_power_end : (power : ℕ) → legal_power power ≡ true → power ≤ 60
unfolding power_at powers
legal_power_end power e =
    let same = power_at_power_index power (legal_index power e) in
    let end : power_at (power_index power) ≤ 60 = leb-true _ _ (every_at (λ (p : ℕ). leb p 60) powers 0 refl refl (power_index power)) in
    omega arith

-- ---- The last arm of a decision

-- What the last arm of a `match` on single numbers knows: A, and n is none of the list.
abbrev pub NoneOf : Type 0 → ℕ → List ℕ → Type 0
NoneOf A n [] = A
NoneOf A n (x ∷ xs) = NoneOf (A × (n ≡ x → ⊥)) n xs

absent : (A : Type 0) (n place : ℕ) (xs : List ℕ) → NoneOf A n xs → AllPass (is_other n) place xs × A
unfolding AllPass
absent A n place [] h = (tt, h)
absent A n place (x ∷ xs) h =
    let later = absent (A × (n ≡ x → ⊥)) n (suc place) xs h in
    ((ap not (ne_eqb n x later.1.1), later.0), later.1.0)

pub index_in_absent : (n : ℕ) (xs : List ℕ) → NoneOf Unit n xs → index_in n xs ≡ length xs
index_in_absent n xs h = index_in_none n xs (absent Unit n 0 xs h).0

-- The numbers below 19, in order.
abbrev pub below_19 : List ℕ
below_19 = 0 ∷ 1 ∷ 2 ∷ 3 ∷ 4 ∷ 5 ∷ 6 ∷ 7 ∷ 8 ∷ 9 ∷ 10 ∷ 11 ∷ 12 ∷ 13 ∷ 14 ∷ 15 ∷ 16 ∷ 17 ∷ 18 ∷ []

pub power_at_absent : (index : ℕ) → NoneOf Unit index below_19 → power_at index ≡ 0
unfolding power_at powers index_in first_failing
power_at_absent index h =
    let none = index_in_absent index below_19 h in
    below_or_not index 19
    (λ k. absurd (omega (arith, eqb-true (index_in index below_19) index (below_at (λ (i : ℕ). eqb (index_in i below_19) i) 19 refl index k))))
    (λ k. get_or-eq_default powers 0 k)
