-- Laws of a table: its fields by their places, what is legal, and what its functions write field by field.
use mathlib.Core.Path.{◌≡◌, refl, sym, ap, ◌∙◌}
use mathlib.Core.Logic.{◌⊎◌, inl, inr}
use Prim.Native.Nat.{ℕ, zero, suc, ◌+◌, ◌*◌, ◌/◌, ◌≤◌, ◌<◌}
use native.Mathlib.Nat.{mul-le-mul_left, mul-one, one-mul, mul_assoc}
use native.Mathlib.Numerals.{add-one}
use native.Mathlib.Omega.{arith}
use mathlib.Core.Bool.{true, false, true≢false, ◌&&◌}
use mathlib.Core.List.{List, [], ◌∷◌, ◌++◌, map, reverse, zip_with}
use lib.Dec.{leb}
use lib.IntN.{ℤ}
use lib.ListN.{length, get_or, drop, drop_of_length-le, length-map}
use lib.Seq.{drop-cons}
use borrow.Author.Tests.{le-leb, lt-leb, leb-true}
use Rattle.std.proofs.lemmas.List.{length-reverse, length-append, get_or-map, append_assoc, append-nil, map-append, reverse-append}
use Rattle.std.specs.Simd.{first_chunks}
use Rattle.basics.proofs.Choice.{both_true, by_test, between_range}
use Rattle.basics.specs.Test.{between}
use Rattle.basics.proofs.ListLaws.{length_zip_with}
use Rattle.radix.specs.Numeral.{Digits, Positive, count}
use Rattle.radix.proofs.Laws.{digits_length, count_positive}
use Rattle.extended.specs.Fields.{field_of, field_in, no_field, fields_of, field_reading, legal_field, legal_fields, count_of, counts, legal_table, code_of, codes_of, field_readings}
use Rattle.extended.specs.declared.field.Field.{Field}
use Rattle.extended.proofs.FieldLaws.{legal, code_below}

-- ---- The fields of the lent numbers

pub fields_length : (numbers : List ℤ) → length (fields_of numbers) ≡ length numbers / 3
unfolding fields_of
fields_length [] = omega arith
fields_length (a ∷ []) = omega arith
fields_length (a ∷ b ∷ []) = omega arith
fields_length (a ∷ b ∷ n ∷ rest) = omega (arith, fields_length rest)

-- The fields of the numbers are those of the lent triples.
pub fields_in : (numbers : List ℤ) → map field_in (first_chunks 3 (length numbers / 3) numbers) ≡ fields_of numbers
unfolding fields_of
fields_in [] = refl
fields_in (a ∷ []) = refl
fields_in (a ∷ b ∷ []) = refl
fields_in (a ∷ b ∷ n ∷ rest) =
    let more : length (a ∷ b ∷ n ∷ rest) / 3 ≡ suc (length rest / 3) = omega arith in
    rw more (ap (λ (fs : List Field). field_of a b n ∷ fs) (fields_in rest))

pub field_at : (threes : List (List ℤ)) (i : ℕ) → i < length threes → get_or (map field_in threes) i no_field ≡ field_in (get_or threes i [])
field_at threes i h = get_or-map field_in threes i [] no_field h

-- ---- What is legal

pub record LegalTable (fs : List Field) : Type 0 where
  pub some : 1 ≤ length fs
  pub few : length fs ≤ 29
  pub each : legal_fields fs ≡ true
  pub product : count (counts fs) ≤ 608_612_940

pub legal_of_table : (fs : List Field) → legal_table fs ≡ true → LegalTable fs
unfolding legal_table
legal_of_table fs e =
    let (its_length, rest) = both_true _ _ e in
    let (each, product) = both_true _ _ rest in
    let range = between_range 1 29 (length fs) its_length in
    record { some = range.0; few = range.1; each = each; product = leb-true _ 608_612_940 product }

legal_among : (fs : List Field) (i : ℕ) → legal_fields fs ≡ true → i < length fs → legal_field (get_or fs i no_field) ≡ true
unfolding legal_fields
legal_among [] i e h = absurd (omega arith)
legal_among (f ∷ fs) zero e h = (both_true _ _ e).0
legal_among (f ∷ fs) (suc i) e h = legal_among fs i (both_true _ _ e).1 (omega arith)

pub legal_at : (fs : List Field) (i : ℕ) → legal_table fs ≡ true → i < length fs → legal_field (get_or fs i no_field) ≡ true
legal_at fs i e h = legal_among fs i (legal_of_table fs e).each h

pub counts_positive : (fs : List Field) → legal_fields fs ≡ true → Positive (counts fs)
unfolding Positive legal_fields count_of
counts_positive [] e = tt
counts_positive (f ∷ fs) e =
    let tests = both_true _ _ e in
    let l = legal f tests.0 in
    (omega (arith, l.two), counts_positive fs tests.1)

pub not_legal_table : (fs : List Field) → (legal_table fs ≡ true → ⊥) → legal_table fs ≡ false
not_legal_table fs h = by_test (legal_table fs) (λ t. absurd (h t)) (λ t. t)

pub few_or_many : (fs : List Field) → between 1 29 (length fs) ≡ false → legal_table fs ≡ false
unfolding legal_table
few_or_many fs e = rw e

pub not_legal_at : (fs : List Field) (i : ℕ) → i < length fs → legal_field (get_or fs i no_field) ≡ false → legal_table fs ≡ false
not_legal_at fs i h e = not_legal_table fs (λ t. true≢false (sym (legal_at fs i t h) ∙ e))

-- Before a turn of the loop that tests a table: what the fields from here on have to be.
pub record Testing (fs : List Field) (product i : ℕ) : Type 0 where
  pub within : i ≤ length fs
  pub small : product ≤ 608_612_940
  pub rest : legal_table fs ≡ (legal_fields (drop i fs) && leb (product * count (counts (drop i fs))) 608_612_940)

pub testing_starts : (fs : List Field) → between 1 29 (length fs) ≡ true → Testing fs 1 0
unfolding legal_table
testing_starts fs e = record { within = omega arith; small = omega arith; rest = rw (e, one-mul (count (counts fs))) }

module _ (fs : List Field) (product i : ℕ) (t : Testing fs product i) where
  module _ (h : i < length fs) (e : legal_field (get_or fs i no_field) ≡ true) where
    testing_next : legal_table fs
        ≡ (legal_fields (drop (i + 1) fs) && leb (product * (get_or fs i no_field).count * count (counts (drop (i + 1) fs))) 608_612_940)
    unfolding legal_fields count count_of
    testing_next =
        t.rest
        ∙ rw (add-one i, drop-cons fs i no_field h, e, mul_assoc product (get_or fs i no_field).count (count (counts (drop (suc i) fs))))

    pub testing_turn : product * (get_or fs i no_field).count ≤ 608_612_940 → Testing fs (product * (get_or fs i no_field).count) (i + 1)
    testing_turn k = record { within = omega arith; small = k; rest = testing_next }

    pub too_large : 608_612_940 < product * (get_or fs i no_field).count → legal_table fs ≡ false
    too_large k =
        let p = product * (get_or fs i no_field).count in
        let later_fields = drop (i + 1) fs in
        by_test (legal_fields later_fields)
        (λ legal_later.
        let more : p * 1 ≤ p * count (counts later_fields) = mul-le-mul_left p (count_positive (counts later_fields) (counts_positive later_fields legal_later)) in
        testing_next ∙ rw (legal_later, lt-leb (p * count (counts later_fields)) 608_612_940 (omega (arith, mul-one p))))
        (λ not_legal. testing_next ∙ rw not_legal)

  pub testing_ends : length fs ≤ i → legal_table fs ≡ true
  unfolding legal_fields count
  testing_ends h = t.rest ∙ rw (drop_of_length-le fs h, mul-one product, le-leb product 608_612_940 t.small)

-- ---- Counts and codes

pub counts_length : (fs : List Field) → length (counts fs) ≡ length fs
counts_length fs = length-map fs count_of

pub reversed_counts_length : (fs : List Field) → length (reverse (counts fs)) ≡ length fs
reversed_counts_length fs = length-reverse (counts fs) ∙ counts_length fs

pub codes_length : (fs : List Field) (readings : List ℤ) → length readings ≡ length fs → length (reverse (codes_of fs readings)) ≡ length fs
codes_length fs readings same = length-reverse (codes_of fs readings) ∙ length_zip_with code_of fs readings same

-- The codes of readings are below their counts.
pub codes_below : (fs : List Field) (readings : List ℤ) → legal_fields fs ≡ true → length readings ≡ length fs → Digits (counts fs) (codes_of fs readings)
unfolding Digits legal_fields count_of zip_with
codes_below [] [] e same = tt
codes_below [] (x ∷ readings) e same = absurd (omega arith)
codes_below (f ∷ fs) [] e same = absurd (omega arith)
codes_below (f ∷ fs) (x ∷ readings) e same =
    let tests = both_true _ _ e in
    (code_below f (legal f tests.0) x, codes_below fs readings tests.1 (omega arith))

pub digit_at : (rs ds : List ℕ) (i : ℕ) → Digits rs ds → i < length rs → get_or ds i 0 < get_or rs i 0
unfolding Digits
digit_at [] ds i h k = absurd (omega arith)
digit_at (r ∷ rs) [] i h k = absurd h
digit_at (r ∷ rs) (d ∷ ds) zero h k = h.0
digit_at (r ∷ rs) (d ∷ ds) (suc i) h k = digit_at rs ds i h.1 (omega arith)

pub readings_length : (fs : List Field) (codes : List ℕ) → Digits (counts fs) codes → length (field_readings fs codes) ≡ length fs
readings_length fs codes h = length_zip_with field_reading fs codes (digits_length (counts fs) codes h ∙ counts_length fs)

-- ---- What is gathered field by field

-- Before a turn of a loop that gathers one for each field of a table: what is left to gather makes all.
pub record Gathering {A : Type 0} (items left all : List A) : Type 0 where
  pub whole : items ++ left ≡ all
  pub few : length all ≤ 29

module _ {A : Type 0} {items left later all : List A} {x : A} (g : Gathering items left all) (next : left ≡ x ∷ later) where
  pub gather_room : length items < 29
  gather_room = omega (arith, g.few, ap length g.whole, length-append items left, ap length next)

  pub gather_turn : Gathering (items ++ x ∷ []) later all
  gather_turn = record { whole = append_assoc items (x ∷ []) later ∙ (rw next at g.whole); few = g.few }

pub gather_ends : {A : Type 0} {items left all : List A} → Gathering items left all → left ≡ [] → items ≡ all
gather_ends {A} {items} g none = sym (append-nil items) ∙ (rw none at g.whole)

-- Where a loop over fields and what stands beside them is over, nothing is left of one of the two, and so nothing to gather.
module _ {A B S T : Type 0} {P : S → Type 0} {Q : T → Type 0} (f : Field → A → B) where
  pub none_left : (threes : List (List ℤ)) (xs : List A) → ((s : S) × ((length threes ≡ 0) × P s)) ⊎ ((t : T) × ((length xs ≡ 0) × Q t))
      → zip_with f (map field_in threes) xs ≡ []
  unfolding zip_with
  none_left [] xs over = refl
  none_left (three ∷ threes) [] over = refl
  none_left (three ∷ threes) (x ∷ xs) (inl over) = absurd (omega (arith, over.1.0))
  none_left (three ∷ threes) (x ∷ xs) (inr over) = absurd (omega (arith, over.1.0))

-- Where there is one for each field, no field is left either.
module _ {A S T : Type 0} {P : S → Type 0} {Q : T → Type 0} where
  pub no_field_left : (threes : List (List ℤ)) (xs : List A) → length xs ≡ length threes
      → ((s : S) × ((length threes ≡ 0) × P s)) ⊎ ((t : T) × ((length xs ≡ 0) × Q t)) → threes ≡ []
  no_field_left [] xs same over = refl
  no_field_left (three ∷ threes) xs same (inl over) = absurd (omega (arith, over.1.0))
  no_field_left (three ∷ threes) xs same (inr over) = absurd (omega (arith, same, over.1.0))

-- The last of the fields that are left, and what it gives.
legal_push : (fs : List Field) (f : Field) → legal_fields (fs ++ f ∷ []) ≡ true → (legal_field f ≡ true) × (legal_fields fs ≡ true)
unfolding legal_fields
legal_push [] f e = ((both_true (legal_field f) true e).0, refl)
legal_push (g ∷ fs) f e =
    let (first, rest) = both_true (legal_field g) (legal_fields (fs ++ f ∷ [])) e in
    let (last, front) = legal_push fs f rest in
    (last, rw (first, front))

codes_push : (fs : List Field) (readings : List ℤ) (f : Field) (x : ℤ) → length readings ≡ length fs
    → codes_of (fs ++ f ∷ []) (readings ++ x ∷ []) ≡ codes_of fs readings ++ code_of f x ∷ []
unfolding zip_with
codes_push [] [] f x same = refl
codes_push [] (y ∷ readings) f x same = absurd (omega arith)
codes_push (g ∷ fs) [] f x same = absurd (omega arith)
codes_push (g ∷ fs) (y ∷ readings) f x same = ap (λ (codes : List ℕ). code_of g y ∷ codes) (codes_push fs readings f x (omega arith))

fields_push : (threes : List (List ℤ)) (three : List ℤ) → map field_in (threes ++ three ∷ []) ≡ map field_in threes ++ field_in three ∷ []
fields_push threes three = map-append field_in threes (three ∷ [])

module _ {threes : List (List ℤ)} (rest : List (List ℤ)) (three : List ℤ) (last : threes ≡ rest ++ three ∷ []) where
  pub last_legal : legal_fields (map field_in threes) ≡ true → (legal_field (field_in three) ≡ true) × (legal_fields (map field_in rest) ≡ true)
  last_legal e = legal_push (map field_in rest) (field_in three) (rw (last, fields_push rest three) at e)

  pub last_count : reverse (counts (map field_in threes)) ≡ (field_in three).count ∷ reverse (counts (map field_in rest))
  unfolding count_of
  last_count = rw (last, fields_push rest three, map-append, reverse-append)

  module _ {readings : List ℤ} (xs : List ℤ) (x : ℤ) (last_reading : readings ≡ xs ++ x ∷ []) (same : length readings ≡ length threes) where
    pub same_left : length xs ≡ length rest
    same_left = omega (arith, same, ap length last, ap length last_reading, length-append rest (three ∷ []), length-append xs (x ∷ []))

    pub last_code : reverse (codes_of (map field_in threes) readings) ≡ code_of (field_in three) x ∷ reverse (codes_of (map field_in rest) xs)
    last_code =
        rw (
          last,
          last_reading,
          fields_push rest three,
          codes_push (map field_in rest) xs (field_in three) x (omega (arith, same_left, length-map rest field_in)),
          reverse-append,
        )

-- The first of the fields that are left, and its code, which is the last of those that are left.
module _ {threes rest : List (List ℤ)} {three : List ℤ} (first : threes ≡ three ∷ rest) where
  pub first_legal : legal_fields (map field_in threes) ≡ true → (legal_field (field_in three) ≡ true) × (legal_fields (map field_in rest) ≡ true)
  unfolding legal_fields
  first_legal e = both_true _ _ (rw first at e)

  module _ {codes : List ℕ} (ds : List ℕ) (d : ℕ) (last : codes ≡ ds ++ d ∷ []) where
    pub first_reading : field_readings (map field_in threes) (reverse codes) ≡ field_reading (field_in three) d ∷ field_readings (map field_in rest) (reverse ds)
    unfolding zip_with
    first_reading = rw (first, last, reverse-append)

    pub first_below : Digits (counts (map field_in threes)) (reverse codes) → (d < (field_in three).count) × Digits (counts (map field_in rest)) (reverse ds)
    unfolding Digits count_of
    first_below h = rw (first, last, reverse-append) at h
