-- Lists by their places: a list by a rule, the first place where a test fails, the first test that is false, the index of a number, and
-- whether two lists are the same.
use Rattle.std.specs.Prelude.{ℕ, zero, suc, Bool, true, false, cond, not, ◌&&◌, List, [], ◌∷◌, eqb, ltb, Option}

-- f 0, f 1 and so on, n of them.
unfoldable pub tabulate : ℕ → (ℕ → ℕ) → List ℕ
tabulate zero f = []
tabulate (suc n) f = f zero ∷ tabulate n (λ i. f (suc i))

-- The first place, from the given one on, where the test of a place and the element there fails; past the last where it fails nowhere.
unfoldable pub first_failing : {A : Type 0} → (ℕ → A → Bool) → ℕ → List A → ℕ
first_failing test place [] = place
first_failing test place (x ∷ xs) = cond (test place x) (first_failing test (suc place) xs) place

-- A place, where it is below the end; none where it isn't: what a search gives that may find nothing.
unfoldable pub some_below : ℕ → ℕ → Option ℕ
some_below end place = cond (ltb place end) (Option.Some place) Option.None

-- A test, as a test of an element of a list.
abbrev pub is_true : ℕ → Bool → Bool
is_true place test = test

-- The place of the first test that is false; past the last where there is none.
abbrev pub first_false : List Bool → ℕ
first_false tests = first_failing is_true 0 tests

-- The element at a place is another number than n.
abbrev pub is_other : ℕ → ℕ → ℕ → Bool
is_other n place x = not (eqb n x)

-- The index of a number in a list; the list's length where it isn't there.
unfoldable pub index_in : ℕ → List ℕ → ℕ
index_in n xs = first_failing (is_other n) 0 xs

-- The two lists are the same.
unfoldable pub same_list : List ℕ → List ℕ → Bool
same_list [] [] = true
same_list [] (y ∷ ys) = false
same_list (x ∷ xs) [] = false
same_list (x ∷ xs) (y ∷ ys) = eqb x y && same_list xs ys
