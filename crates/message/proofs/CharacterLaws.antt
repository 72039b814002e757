-- Laws of characters: capitals, a value by the byte's class and back, legal characters, and digits and characters inverse to each other.
use mathlib.Core.Path.{◌≡◌, refl, sym, ap, ◌∙◌, subst}
use Prim.Native.Nat.{ℕ, zero, suc, ◌+◌, ◌-◌, ◌≤◌, ◌<◌}
use native.Mathlib.Nat.{add-zero, add-sub_of_le, add-sub_cancel_left}
use native.Mathlib.Omega.{arith}
use mathlib.Core.Bool.{Bool, true, false, cond}
use mathlib.Core.List.{List, [], ◌∷◌, ◌++◌}
use lib.Dec.{eqb, leb, ltb}
use lib.ListN.{length, get_or, get_or-eq_default}
use borrow.Author.Tests.{le-leb, lt-ltb, le-ltb, leb-true, ltb-true, eqb-true, ne_eqb}
use Rattle.basics.specs.Test.{between}
use Rattle.radix.specs.Numeral.{Digits}
use Rattle.basics.proofs.Tables.{every_at, below_at}
use Rattle.basics.proofs.Choice.{between_true, between_below, between_above, between_range, both_true, by_test, below_or_not, equal_or_not}
use Rattle.message.specs.Character.{capital, capital_form, value, character, CharacterSet, callsign_sets, locator_sets, set_at, legal_at, digit_at, character_at, over_places, digits_from, characters_from, DigitsAt}
use Rattle.basics.proofs.ListLaws.{AllPass}

-- ---- Capitals

pub capital_small : {b : ℕ} → 97 ≤ b → b ≤ 122 → capital b ≡ b - 32
unfolding capital
capital_small {b} h k = rw (between_true 97 122 b h k)

pub capital_before : {b : ℕ} → b < 97 → capital b ≡ b
unfolding capital
capital_before {b} h = rw (between_below 97 122 b h)

pub capital_after : {b : ℕ} → 123 ≤ b → capital b ≡ b
unfolding capital
capital_after {b} h = rw (between_above 97 122 b (omega arith) (omega arith))

-- A byte is its own capital, or a small letter.
capital_cases : {P : Type 0} (b : ℕ) → (capital b ≡ b → P) → (97 ≤ b → b ≤ 122 → capital b ≡ b - 32 → P) → P
capital_cases b own small =
    below_or_not b 97 (λ h. own (capital_before h))
    (λ h. below_or_not b 123 (λ k. small h (omega arith) (capital_small h (omega arith))) (λ k. own (capital_after k)))

-- The capital of a capital is itself.
pub capital_capital : (b : ℕ) → capital (capital b) ≡ capital b
capital_capital b = capital_cases b (λ e. ap capital e) (λ h k e. capital_before (omega arith))

-- A byte whose capital lies below the letters is its own capital.
pub capital_no_letter : (b : ℕ) → capital b < 65 → b ≡ capital b
capital_no_letter b below = capital_cases b (λ e. sym e) (λ h k e. absurd (omega arith))

capital_most : (b : ℕ) → capital b ≤ b
capital_most b = capital_cases b (λ e. omega arith) (λ h k e. omega arith)

-- A test that no byte from A on passes says the same of a byte and of its capital.
pub capital_test : (test : ℕ → Bool) → ((b : ℕ) → 65 ≤ b → test b ≡ false) → (b : ℕ) → test (capital b) ≡ test b
capital_test test none b =
    below_or_not (capital b) 65 (λ h. ap test (sym (capital_no_letter b h)))
    (λ h. none (capital b) h ∙ sym (none b (omega (arith, capital_most b))))

pub capital_space : (b : ℕ) → eqb (capital b) 32 ≡ eqb b 32
capital_space b = capital_test (λ (c : ℕ). eqb c 32) (λ c h. ne_eqb c 32 (λ e. omega arith)) b

-- ---- A byte's class, which is that of its capital

module _ (b : ℕ) where
  pub value_digit : 48 ≤ capital b → capital b ≤ 57 → value b ≡ capital b - 48
  unfolding value
  value_digit h k = rw (between_true 48 57 (capital b) h k)

  pub value_letter : 65 ≤ capital b → capital b ≤ 90 → value b ≡ capital b - 55
  unfolding value
  value_letter h k = rw (between_above 48 57 (capital b) (omega arith) (omega arith), between_true 65 90 (capital b) h k)

  pub value_space : capital b ≡ 32 → value b ≡ 36
  unfolding value
  value_space e = rw e

  -- A byte between the classes is no character.
  pub value_below_digits : capital b < 48 → (capital b ≡ 32 → ⊥) → value b ≡ 37
  unfolding value
  value_below_digits h k =
      rw (between_below 48 57 (capital b) h, between_below 65 90 (capital b) (omega arith), ne_eqb (capital b) 32 k)

  pub value_other : 58 ≤ capital b → between 65 90 (capital b) ≡ false → value b ≡ 37
  unfolding value
  value_other h e = rw (between_above 48 57 (capital b) (omega arith) (omega arith), e, ne_eqb (capital b) 32 (λ s. omega arith))

-- A byte has the value of its capital.
pub value_capital : (b : ℕ) → value (capital b) ≡ value b
unfolding value
value_capital b = rw (capital_capital b)

pub character_digit : {v : ℕ} → v < 10 → character v ≡ v + 48
unfolding character
character_digit {v} h = rw (lt-ltb v 10 h)

pub character_letter : {v : ℕ} → 10 ≤ v → v < 36 → character v ≡ v + 55
unfolding character
character_letter {v} h k = rw (le-ltb v 10 h, lt-ltb v 36 k)

pub character_space : {v : ℕ} → 36 ≤ v → character v ≡ 32
unfolding character
character_space {v} h = rw (le-ltb v 10 (omega arith), le-ltb v 36 h)

-- ---- A value and its character

-- Every character of a value is a capital, a digit or the space.
pub capital_character : (v : ℕ) → capital (character v) ≡ character v
capital_character v =
    below_or_not v 10 (λ d. capital_before (omega (arith, character_digit d)))
    (λ d. below_or_not v 36 (λ l. capital_before (omega (arith, character_letter d l))) (λ l. capital_before (omega (arith, character_space l))))

value_character : {v : ℕ} → v < 37 → value (character v) ≡ v
value_character {v} h =
    let same = capital_character v in
    below_or_not v 10
    (λ d. let c = character_digit d in value_digit (character v) (omega arith) (omega arith) ∙ omega arith)
    (λ d. below_or_not v 36
    (λ l. let c = character_letter d l in value_letter (character v) (omega arith) (omega arith) ∙ omega arith)
    (λ l. let c = character_space l in value_space (character v) (omega arith) ∙ omega arith))

pub character_value : (b : ℕ) → value b < 37 → character (value b) ≡ capital b
character_value b h =
    below_or_not (capital b) 48
    (λ d. equal_or_not (capital b) 32 (λ e. rw (value_space b e) (character_space (omega arith) ∙ sym e))
    (λ n. absurd (omega (arith, value_below_digits b d n))))
    (λ d. below_or_not (capital b) 58 (λ e. rw (value_digit b d (omega arith)) (character_digit (omega arith) ∙ omega arith))
    (λ e. by_test (between 65 90 (capital b))
    (λ t. let l = between_range 65 90 (capital b) t in
    rw (value_letter b l.0 l.1) (character_letter (omega arith) (omega arith) ∙ omega arith))
    (λ f. absurd (omega (arith, value_other b e f)))))

-- ---- The sets

-- The table of the sets, place by place.
abbrev sets : List CharacterSet
unfolding callsign_sets locator_sets
sets = callsign_sets ++ locator_sets

abbrev none : CharacterSet
none = record { lowest = 0; size = 0 }

-- The lowest value and the size of a place's set by the place, as a decision: one test of all ten places each. Past them the lowest is 0.
abbrev pub lowest_for : ℕ → ℕ
lowest_for place = cond (ltb place 3) 0 (cond (ltb place 8) 10 0)

pub lowest_by : (place : ℕ) → (set_at place).lowest ≡ lowest_for place
unfolding set_at callsign_sets locator_sets
lowest_by place =
    below_or_not place 10
    (λ within. eqb-true _ _ (below_at (λ (p : ℕ). eqb (set_at p).lowest (lowest_for p)) 10 refl place within))
    (λ past. rw (get_or-eq_default sets none past, le-ltb place 3 (omega arith), le-ltb place 8 (omega arith)))

-- Places 0 to 2 have a size each.
abbrev pub size_for : ℕ → ℕ
size_for place =
    cond (eqb place 0) 37
    (cond (eqb place 1) 36
    (cond (eqb place 2) 10
    (cond (ltb place 6) 27
    (cond (ltb place 8) 18 10))))

pub size_by_place : (place : ℕ) → place < 10 → (set_at place).size ≡ size_for place
unfolding set_at callsign_sets locator_sets
size_by_place place h = eqb-true _ _ (below_at (λ (p : ℕ). eqb (set_at p).size (size_for p)) 10 refl place h)

-- The sizes of the places past the third.
pub size_past_2 : (place : ℕ) → place < 10 → 3 ≤ place → (set_at place).size ≡ cond (ltb place 6) 27 (cond (ltb place 8) 18 10)
size_past_2 place h past =
    size_by_place place h
    ∙ rw (ne_eqb place 0 (λ e. absurd (omega (arith, e))), ne_eqb place 1 (λ e. absurd (omega (arith, e))), ne_eqb place 2 (λ e. absurd (omega (arith, e))))

-- No set goes past the space.
pub set_end : (place : ℕ) → (set_at place).lowest + (set_at place).size ≤ 37
unfolding set_at callsign_sets locator_sets
set_end place = leb-true _ _ (every_at (λ (s : CharacterSet). leb (s.lowest + s.size) 37) sets none refl refl place)

-- ---- Legal characters

pub legal_from : (place b : ℕ) → (set_at place).lowest ≤ value b → value b < (set_at place).lowest + (set_at place).size → legal_at place b ≡ true
unfolding legal_at
legal_from place b h k = rw (le-leb _ _ h, lt-ltb _ _ k)

legal_lowest : (place b : ℕ) → legal_at place b ≡ true → (set_at place).lowest ≤ value b
unfolding legal_at
legal_lowest place b e = leb-true _ _ (both_true (leb (set_at place).lowest (value b)) _ e).0

pub legal_end : (place b : ℕ) → legal_at place b ≡ true → value b < (set_at place).lowest + (set_at place).size
unfolding legal_at
legal_end place b e = ltb-true _ _ (both_true (leb (set_at place).lowest (value b)) _ e).1

-- Every character from a place on is legal.
abbrev pub AllLegal : ℕ → List ℕ → Type 0
AllLegal place bytes = AllPass legal_at place bytes

-- ---- Digits and characters are inverse to each other

length_over_places : (f : ℕ → ℕ → ℕ) (place : ℕ) (xs : List ℕ) → length (over_places f place xs) ≡ length xs
unfolding over_places
length_over_places f place [] = refl
length_over_places f place (x ∷ xs) = ap suc (length_over_places f (suc place) xs)

get_d_over_places : (f : ℕ → ℕ → ℕ) (place : ℕ) (xs : List ℕ) (i : ℕ) → i < length xs
    → get_or (over_places f place xs) i 0 ≡ f (place + i) (get_or xs i 0)
unfolding over_places
get_d_over_places f place [] i h = absurd (omega arith)
get_d_over_places f place (x ∷ xs) zero h = ap (λ (p : ℕ). f p x) (sym (add-zero place))
get_d_over_places f place (x ∷ xs) (suc i) h =
    get_d_over_places f (suc place) xs i (omega arith) ∙ ap (λ (p : ℕ). f p (get_or xs i 0)) (omega arith)

pub length_digits_from : (place : ℕ) (bs : List ℕ) → length (digits_from place bs) ≡ length bs
unfolding digits_from
length_digits_from place bs = length_over_places digit_at place bs

pub length_characters_from : (place : ℕ) (ds : List ℕ) → length (characters_from place ds) ≡ length ds
unfolding characters_from
length_characters_from place ds = length_over_places character_at place ds

pub get_d_digits_from : (place : ℕ) (bs : List ℕ) (i : ℕ) → i < length bs → get_or (digits_from place bs) i 0 ≡ digit_at (place + i) (get_or bs i 0)
unfolding digits_from
get_d_digits_from place bs i h = get_d_over_places digit_at place bs i h

pub get_d_characters_from : (place : ℕ) (ds : List ℕ) (i : ℕ) → i < length ds
    → get_or (characters_from place ds) i 0 ≡ character_at (place + i) (get_or ds i 0)
unfolding characters_from
get_d_characters_from place ds i h = get_d_over_places character_at place ds i h

pub digits_of_legal : (place : ℕ) (bs : List ℕ) → AllLegal place bs → DigitsAt place (digits_from place bs)
unfolding AllPass DigitsAt digits_from over_places digit_at
digits_of_legal place [] h = tt
digits_of_legal place (b ∷ bs) h =
    (omega (arith, legal_lowest place b h.0, legal_end place b h.0), digits_of_legal (suc place) bs h.1)

pub characters_of_digits : (place : ℕ) (bs : List ℕ) → AllLegal place bs → characters_from place (digits_from place bs) ≡ capital_form bs
unfolding AllPass digits_from characters_from over_places digit_at character_at
characters_of_digits place [] h = refl
characters_of_digits place (b ∷ bs) h =
    rw (
      add-sub_of_le (legal_lowest place b h.0),
      character_value b (omega (arith, legal_end place b h.0, set_end place)),
      characters_of_digits (suc place) bs h.1,
    )

-- The value of a digit's character.
value_at : (place d : ℕ) → d < (set_at place).size → value (character ((set_at place).lowest + d)) ≡ (set_at place).lowest + d
value_at place d h = value_character (omega (arith, set_end place))

pub legal_of_digits : (place : ℕ) (ds : List ℕ) → DigitsAt place ds → AllLegal place (characters_from place ds)
unfolding AllPass DigitsAt characters_from over_places character_at
legal_of_digits place [] h = tt
legal_of_digits place (d ∷ ds) h =
    let e = value_at place d h.0 in
    (legal_from place _ (omega arith) (omega arith), legal_of_digits (suc place) ds h.1)

pub digits_of_characters : (place : ℕ) (ds : List ℕ) → DigitsAt place ds → digits_from place (characters_from place ds) ≡ ds
unfolding DigitsAt digits_from characters_from over_places digit_at character_at
digits_of_characters place [] h = refl
digits_of_characters place (d ∷ ds) h =
    rw (value_at place d h.0, add-sub_cancel_left (set_at place).lowest d, digits_of_characters (suc place) ds h.1)

-- The digit at an index is below its set's size.
pub digit_below : (place : ℕ) (ds : List ℕ) (i : ℕ) → DigitsAt place ds → i < length ds → get_or ds i 0 < (set_at (place + i)).size
unfolding DigitsAt
digit_below place [] i h k = absurd (omega arith)
digit_below place (d ∷ ds) zero h k = subst (λ (p : ℕ). d < (set_at p).size) (sym (add-zero place)) h.0
digit_below place (d ∷ ds) (suc i) h k =
    subst (λ (p : ℕ). get_or ds i 0 < (set_at p).size) (omega arith) (digit_below (suc place) ds i h.1 (omega arith))

-- ---- Digits at places as digits in radices

-- The sizes of the sets of n places.
unfoldable pub sizes_from : ℕ → ℕ → List ℕ
sizes_from place zero = []
sizes_from place (suc n) = (set_at place).size ∷ sizes_from (suc place) n

pub digits_in_sizes : (place n : ℕ) (ds : List ℕ) → length ds ≡ n → DigitsAt place ds → Digits (sizes_from place n) ds
unfolding Digits DigitsAt sizes_from
digits_in_sizes place zero [] e h = tt
digits_in_sizes place zero (d ∷ ds) e h = absurd (omega arith)
digits_in_sizes place (suc n) [] e h = absurd (omega arith)
digits_in_sizes place (suc n) (d ∷ ds) e h = (h.0, digits_in_sizes (suc place) n ds (omega arith) h.1)
