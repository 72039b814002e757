-- Laws of lists by their places: a list from an index on, a list the other way round, two lists place by place, a list by a rule, the first
-- place where a test fails, the index of a number, and whether two lists are the same.
use mathlib.Core.Path.{◌≡◌, refl, sym, ap, ◌∙◌}
use Prim.Native.Nat.{ℕ, zero, suc, ◌+◌, ◌-◌, ◌≤◌, ◌<◌}
use native.Mathlib.Nat.{add-suc, add-zero, suc-add, zero-add}
use native.Mathlib.Numerals.{add-one}
use native.Mathlib.Omega.{arith}
use mathlib.Core.Bool.{Bool, true, false, not, true≢false, false≢true}
use mathlib.Core.List.{List, [], ◌∷◌, ◌++◌, map, reverse_aux, reverse, zip_with}
use lib.Dec.{eqb}
use lib.ListN.{length, get_or, take, drop, drop_of_length-le}
use lib.Seq.{drop-cons, get_or-drop, ext_get_or}
use borrow.Author.Tests.{eqb-true, eq-eqb, ne_eqb}
use Rattle.basics.specs.Lists.{tabulate, first_failing, is_other, index_in, same_list}
use Rattle.basics.proofs.Choice.{both_true, by_test, equal_or_not}

-- ---- A list from an index on

pub head_at : (i : ℕ) (l : List ℕ) → get_or (drop i l) 0 0 ≡ get_or l i 0
head_at i l = rw (add-zero i) at (get_or-drop i l 0 0)

-- Changing each element and taking a part come to the same in either order.
pub take_map : (f : ℕ → ℕ) (n : ℕ) (xs : List ℕ) → take n (map f xs) ≡ map f (take n xs)
take_map f zero xs = refl
take_map f (suc n) [] = refl
take_map f (suc n) (x ∷ xs) = ap (λ (l : List ℕ). f x ∷ l) (take_map f n xs)

pub drop_map : (f : ℕ → ℕ) (n : ℕ) (xs : List ℕ) → drop n (map f xs) ≡ map f (drop n xs)
drop_map f zero xs = refl
drop_map f (suc n) [] = refl
drop_map f (suc n) (x ∷ xs) = drop_map f n xs

-- ---- A list the other way round, and two lists place by place

module _ {A : Type 0} where
  reverse_aux_behind : (xs ys : List A) (d : A) (k : ℕ) → get_or (reverse_aux xs ys) (length xs + k) d ≡ get_or ys k d
  reverse_aux_behind [] ys d k = ap (λ (i : ℕ). get_or ys i d) (zero-add k)
  reverse_aux_behind (x ∷ xs) ys d k =
      ap (λ (i : ℕ). get_or (reverse_aux xs (x ∷ ys)) i d) (suc-add (length xs) k ∙ sym (add-suc (length xs) k)) ∙ reverse_aux_behind xs (x ∷ ys) d (suc k)

  reverse_aux_at : (xs ys : List A) (d : A) (i : ℕ) → i < length xs → get_or (reverse_aux xs ys) i d ≡ get_or xs (length xs - 1 - i) d
  reverse_aux_at [] ys d i h = absurd (omega arith)
  reverse_aux_at (x ∷ xs) ys d i h =
      equal_or_not i (length xs)
      (λ e. let at_end : length xs + 0 ≡ i = omega arith in
      let first : suc (length xs) - 1 - i ≡ 0 = omega arith in
      rw (first, ← at_end) (reverse_aux_behind xs (x ∷ ys) d 0))
      (λ ne. let within : i < length xs = omega arith in
      let later : suc (length xs) - 1 - i ≡ suc (length xs - 1 - i) = omega arith in
      rw later (reverse_aux_at xs (x ∷ ys) d i within))

  pub get_d_reverse : (xs : List A) (d : A) (i : ℕ) → i < length xs → get_or (reverse xs) i d ≡ get_or xs (length xs - 1 - i) d
  get_d_reverse xs d i h = reverse_aux_at xs [] d i h

  append_nil : (xs : List A) → xs ++ [] ≡ xs
  append_nil [] = refl
  append_nil (x ∷ xs) = ap (λ (l : List A). x ∷ l) (append_nil xs)

  reverse_aux_reverse_aux : (xs ys zs : List A) → reverse_aux (reverse_aux xs ys) zs ≡ reverse_aux ys (xs ++ zs)
  reverse_aux_reverse_aux [] ys zs = refl
  reverse_aux_reverse_aux (x ∷ xs) ys zs = reverse_aux_reverse_aux xs (x ∷ ys) zs

  pub reverse_reverse : (xs : List A) → reverse (reverse xs) ≡ xs
  reverse_reverse xs = reverse_aux_reverse_aux xs [] [] ∙ append_nil xs

module _ {A B C : Type 0} (f : A → B → C) where
  pub length_zip_with : (xs : List A) (ys : List B) → length ys ≡ length xs → length (zip_with f xs ys) ≡ length xs
  unfolding zip_with
  length_zip_with [] [] e = refl
  length_zip_with [] (y ∷ ys) e = refl
  length_zip_with (x ∷ xs) [] e = absurd (omega arith)
  length_zip_with (x ∷ xs) (y ∷ ys) e = ap suc (length_zip_with xs ys (omega arith))

  pub get_d_zip_with : (xs : List A) (ys : List B) (a : A) (b : B) (c : C) (i : ℕ) → i < length xs → length ys ≡ length xs
      → get_or (zip_with f xs ys) i c ≡ f (get_or xs i a) (get_or ys i b)
  unfolding zip_with
  get_d_zip_with [] ys a b c i h e = absurd (omega arith)
  get_d_zip_with (x ∷ xs) [] a b c i h e = absurd (omega arith)
  get_d_zip_with (x ∷ xs) (y ∷ ys) a b c zero h e = refl
  get_d_zip_with (x ∷ xs) (y ∷ ys) a b c (suc i) h e = get_d_zip_with xs ys a b c i (omega arith) (omega arith)

-- ---- A list by a rule

pub length_tabulate : (n : ℕ) (f : ℕ → ℕ) → length (tabulate n f) ≡ n
unfolding tabulate
length_tabulate zero f = refl
length_tabulate (suc n) f = ap suc (length_tabulate n (λ i. f (suc i)))

pub get_d_tabulate : (n : ℕ) (f : ℕ → ℕ) (i : ℕ) → i < n → get_or (tabulate n f) i 0 ≡ f i
unfolding tabulate
get_d_tabulate zero f i h = absurd (omega arith)
get_d_tabulate (suc n) f zero h = refl
get_d_tabulate (suc n) f (suc i) h = get_d_tabulate n (λ i. f (suc i)) i (omega arith)

-- A list of n elements that follow the rule is the rule's.
pub by_rule : (n : ℕ) (f : ℕ → ℕ) (xs : List ℕ) → length xs ≡ n → ((i : ℕ) → i < n → get_or xs i 0 ≡ f i) → xs ≡ tabulate n f
by_rule n f xs e rule =
    ext_get_or 0 xs (tabulate n f) (rw (e, length_tabulate n f))
    (λ i h. let within : i < n = omega arith in rw (rule i within, get_d_tabulate n f i within))

-- A list is what stands at its places.
pub by_places : (n : ℕ) (xs : List ℕ) → length xs ≡ n → xs ≡ tabulate n (λ i. get_or xs i 0)
by_places n xs e = by_rule n (λ i. get_or xs i 0) xs e (λ i h. refl)

-- ---- The first place where a test fails

module _ {A : Type 0} (test : ℕ → A → Bool) where
  -- Every element from a place on passes.
  unfoldable pub AllPass : ℕ → List A → Type 0
  AllPass place [] = Unit
  AllPass place (x ∷ xs) = (test place x ≡ true) × AllPass (suc place) xs

  nothing_fails : (place : ℕ) → first_failing test place [] ≡ place
  unfolding first_failing
  nothing_fails place = refl

  first_passed : (place : ℕ) (x : A) (xs : List A) → test place x ≡ true → first_failing test place (x ∷ xs) ≡ first_failing test (suc place) xs
  unfolding first_failing
  first_passed place x xs e = rw e

  first_failed : (place : ℕ) (x : A) (xs : List A) → test place x ≡ false → first_failing test place (x ∷ xs) ≡ place
  unfolding first_failing
  first_failed place x xs e = rw e

  -- The place is at most one past the last.
  pub first_failing_end : (place : ℕ) (xs : List A) → first_failing test place xs ≤ place + length xs
  first_failing_end place [] = omega (arith, nothing_fails place)
  first_failing_end place (x ∷ xs) =
      by_test (test place x)
      (λ e. omega (arith, first_passed place x xs e, first_failing_end (suc place) xs))
      (λ e. omega (arith, first_failed place x xs e))

  -- Where a change of the elements leaves the test's answers alone, the place is as before.
  pub first_failing_map : (f : A → A) → ((place : ℕ) (x : A) → test place (f x) ≡ test place x) → (place : ℕ) (xs : List A)
      → first_failing test place (map f xs) ≡ first_failing test place xs
  unfolding first_failing
  first_failing_map f same place [] = refl
  first_failing_map f same place (x ∷ xs) = rw (same place x, first_failing_map f same (suc place) xs)

  -- None fails exactly where all pass.
  pub all_pass : (place : ℕ) (xs : List A) → place + length xs ≤ first_failing test place xs → AllPass place xs
  unfolding AllPass
  all_pass place [] h = tt
  all_pass place (x ∷ xs) h =
      by_test (test place x)
      (λ e. (e, all_pass (suc place) xs (omega (arith, first_passed place x xs e))))
      (λ e. absurd (omega (arith, first_failed place x xs e)))

  pub none_fails : (place : ℕ) (xs : List A) → AllPass place xs → first_failing test place xs ≡ place + length xs
  unfolding first_failing AllPass
  none_fails place [] h = omega arith
  none_fails place (x ∷ xs) h = rw h.0 (none_fails (suc place) xs h.1 ∙ omega arith)

  -- All pass exactly where the test holds at every index.
  pass_at : (d : A) (place : ℕ) (xs : List A) → AllPass place xs → (i : ℕ) → i < length xs → test (place + i) (get_or xs i d) ≡ true
  unfolding AllPass
  pass_at d place [] h i k = absurd (omega arith)
  pass_at d place (x ∷ xs) h zero k = rw (add-zero place) h.0
  pass_at d place (x ∷ xs) h (suc i) k = rw (add-suc place i, ← suc-add place i) (pass_at d (suc place) xs h.1 i (omega arith))

  pass_each : (d : A) (place : ℕ) (xs : List A) → ((i : ℕ) → i < length xs → test (place + i) (get_or xs i d) ≡ true) → AllPass place xs
  unfolding AllPass
  pass_each d place [] h = tt
  pass_each d place (x ∷ xs) h =
      (rw (add-zero place) at (h zero (omega arith)), pass_each d (suc place) xs (λ i k. rw (suc-add place i, ← add-suc place i) (h (suc i) (omega arith))))

  pub passes_at : (d : A) (xs : List A) → length xs ≤ first_failing test 0 xs → (i : ℕ) → i < length xs → test i (get_or xs i d) ≡ true
  passes_at d xs e i h = rw (zero-add i) at (pass_at d 0 xs (all_pass 0 xs (omega arith)) i h)

  pub passes_each : (d : A) (xs : List A) → ((i : ℕ) → i < length xs → test i (get_or xs i d) ≡ true) → first_failing test 0 xs ≡ length xs
  passes_each d xs h = none_fails 0 xs (pass_each d 0 xs (λ i k. rw (zero-add i) (h i k))) ∙ zero-add (length xs)

  -- Where one fails, the first that does: the test fails there, and passes before.
  record FailsFirst (d : A) (place : ℕ) (xs : List A) : Type 0 where
    index : ℕ
    is_place : first_failing test place xs ≡ place + index
    within : index < length xs
    fails : test (place + index) (get_or xs index d) ≡ false
    passes_before : (j : ℕ) → j < index → test (place + j) (get_or xs j d) ≡ true

  fails_first : (d : A) (place : ℕ) (xs : List A) → first_failing test place xs < place + length xs → FailsFirst d place xs
  fails_first d place [] h = absurd (omega (arith, nothing_fails place))
  fails_first d place (x ∷ xs) h =
      by_test (test place x)
      (λ e.
      let later = fails_first d (suc place) xs (omega (arith, first_passed place x xs e)) in
      record {
        index = suc later.index;
        is_place = first_passed place x xs e ∙ later.is_place ∙ next later.index;
        within = omega (arith, later.within);
        fails = rw (← next later.index) later.fails;
        passes_before = earlier e later.index later.passes_before;
      })
      (λ e.
      record {
        index = 0;
        is_place = first_failed place x xs e ∙ sym (add-zero place);
        within = omega arith;
        fails = rw (add-zero place) e;
        passes_before = λ j k. absurd (omega arith);
      })
    where
      next : (i : ℕ) → suc place + i ≡ place + suc i
      next i = suc-add place i ∙ sym (add-suc place i)

      earlier : test place x ≡ true → (n : ℕ) → ((j : ℕ) → j < n → test (suc place + j) (get_or xs j d) ≡ true)
          → (j : ℕ) → j < suc n → test (place + j) (get_or (x ∷ xs) j d) ≡ true
      earlier e n before zero k = rw (add-zero place) e
      earlier e n before (suc j) k = rw (← next j) (before j (omega arith))

  module _ (d : A) (xs : List A) where
    pub fails_at : first_failing test 0 xs < length xs → test (first_failing test 0 xs) (get_or xs (first_failing test 0 xs) d) ≡ false
    fails_at h =
        let first = fails_first d 0 xs (omega arith) in
        let at : first_failing test 0 xs ≡ first.index = first.is_place ∙ zero-add first.index in
        rw at (rw (zero-add first.index) at first.fails)

    pub passes_before_first : first_failing test 0 xs < length xs → (i : ℕ) → i < first_failing test 0 xs → test i (get_or xs i d) ≡ true
    passes_before_first h i k =
        let first = fails_first d 0 xs (omega arith) in
        rw (zero-add i) at (first.passes_before i (omega (arith, first.is_place)))

  -- Two lists one after the other: the first failing place is that of the first list, or else that of the second.
  pub first_failing_append : (place end : ℕ) (xs ys : List A) → place + length xs ≡ end → AllPass place xs
      → first_failing test place (xs ++ ys) ≡ first_failing test end ys
  unfolding first_failing AllPass
  first_failing_append place end [] ys e h = ap (λ (p : ℕ). first_failing test p ys) (omega arith)
  first_failing_append place end (x ∷ xs) ys e h = rw h.0 (first_failing_append (suc place) end xs ys (omega arith) h.1)

  pub first_failing_first : (place : ℕ) (xs ys : List A) → first_failing test place xs < place + length xs
      → first_failing test place (xs ++ ys) ≡ first_failing test place xs
  unfolding first_failing
  first_failing_first place [] ys h = absurd (omega arith)
  first_failing_first place (x ∷ xs) ys h =
      by_test (test place x)
      (λ e. rw e (first_failing_first (suc place) xs ys (omega (arith, first_passed place x xs e))))
      (λ e. rw e refl)

  -- A loop that looks for it from place 0 on, before a turn: the first failing place from here on is that of the whole list.
  abbrev pub Searching : List A → ℕ → Type 0
  Searching xs i = (i ≤ length xs) × (first_failing test i (drop i xs) ≡ first_failing test 0 xs)

  -- The turns of a loop that looks for it, from an index on.
  module _ (xs : List A) (i place : ℕ) where
    pub search_failed : (d : A) → i < length xs → test place (get_or xs i d) ≡ false → first_failing test place (drop i xs) ≡ place
    search_failed d h e = rw (drop-cons xs i d h) (first_failed place (get_or xs i d) (drop (suc i) xs) e)

    pub search_passed : (d : A) → i < length xs → test place (get_or xs i d) ≡ true
        → first_failing test (place + 1) (drop (i + 1) xs) ≡ first_failing test place (drop i xs)
    search_passed d h e = rw (drop-cons xs i d h, first_passed place (get_or xs i d) (drop (suc i) xs) e, add-one i, add-one place)

    pub search_over : length xs ≤ i → first_failing test place (drop i xs) ≡ place
    unfolding first_failing
    search_over h = rw (drop_of_length-le xs h)

  -- The same where place and index are one: it stops at the first failing place, goes on, or finds none.
  module _ (xs : List A) (i : ℕ) (now : Searching xs i) where
    pub search_found : (d : A) → i < length xs → test i (get_or xs i d) ≡ false → i ≡ first_failing test 0 xs
    search_found d h e = sym (search_failed xs i i d h e) ∙ now.1

    pub search_next : (d : A) → i < length xs → test i (get_or xs i d) ≡ true → Searching xs (i + 1)
    search_next d h e = (omega arith, search_passed xs i i d h e ∙ now.1)

    pub search_none : length xs ≤ i → i ≡ first_failing test 0 xs
    search_none h = sym (search_over xs i i h) ∙ now.1

-- ---- The index of a number

-- What stands at a number's index is the number.
pub get_d_index_in : (n : ℕ) (xs : List ℕ) (d : ℕ) → index_in n xs < length xs → get_or xs (index_in n xs) d ≡ n
unfolding index_in
get_d_index_in n xs d h =
    let found = get_or xs (first_failing (is_other n) 0 xs) d in
    equal_or_not n found
    (λ same. sym same)
    (λ other. absurd (true≢false (sym (ap not (ne_eqb n found other)) ∙ fails_at (is_other n) d xs h)))

-- A number that none of them is has the list's length as its index.
pub index_in_none : (n : ℕ) (xs : List ℕ) → AllPass (is_other n) 0 xs → index_in n xs ≡ length xs
unfolding index_in
index_in_none n xs h = none_fails (is_other n) 0 xs h ∙ zero-add (length xs)

-- ---- Whether two lists are the same

pub same_list_equal : (xs ys : List ℕ) → same_list xs ys ≡ true → xs ≡ ys
unfolding same_list
same_list_equal [] [] e = refl
same_list_equal [] (y ∷ ys) e = absurd (false≢true e)
same_list_equal (x ∷ xs) [] e = absurd (false≢true e)
same_list_equal (x ∷ xs) (y ∷ ys) e =
    let tests = both_true (eqb x y) (same_list xs ys) e in
    rw (eqb-true x y tests.0, same_list_equal xs ys tests.1)

pub same_list_itself : (xs : List ℕ) → same_list xs xs ≡ true
unfolding same_list
same_list_itself [] = refl
same_list_itself (x ∷ xs) = rw (eq-eqb x x refl, same_list_itself xs)
