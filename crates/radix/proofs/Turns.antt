-- One turn of the loops of `pack` and `unpack`, over the radices that are left.
use mathlib.Core.Path.{◌≡◌, refl, ◌∙◌}
use Prim.Native.Nat.{ℕ, zero, suc, ◌+◌, ◌*◌, ◌/◌, ◌%◌, ◌^◌, ◌≤◌, ◌<◌}
use native.Mathlib.Nat.{mul-le-mul_left, mul_comm, mul-one, div-one, div-div-eq-div-mul}
use native.Mathlib.Omega.{arith}
use mathlib.Core.List.{List, [], ◌∷◌, ◌++◌}
use lib.ListN.{length, get_or, drop, drop_of_length-le, set, length-set, length-append}
use Rattle.std.proofs.lemmas.List.{append-nil, append_assoc, drop-set}
use Rattle.radix.specs.Numeral.{Digits, Positive, count, number_from, number_of, digits_of}
use Rattle.radix.proofs.Laws.{digits_positive, count_positive, count_append, number_from_front, number_below, digits_of_append}

-- ---- Radices and digits from an index on

pub digits_drop : (i : ℕ) (rs ds : List ℕ) → Digits rs ds → Digits (drop i rs) (drop i ds)
unfolding Digits
digits_drop zero rs ds h = h
digits_drop (suc i) [] [] h = h
digits_drop (suc i) [] (d ∷ ds) h = absurd h
digits_drop (suc i) (r ∷ rs) [] h = absurd h
digits_drop (suc i) (r ∷ rs) (d ∷ ds) h = digits_drop i rs ds h.1

pub positive_at : (rs : List ℕ) (i : ℕ) → Positive rs → i < length rs → 0 < get_or rs i 0
unfolding Positive
positive_at [] i h k = omega arith
positive_at (r ∷ rs) zero h k = h.0
positive_at (r ∷ rs) (suc i) h k = positive_at rs i h.1 (omega arith)

-- ---- pack

-- Before a turn: the number so far and the radices and digits that are left make the number of all the digits.
pub record Packing (radices digits : List ℕ) (number : ℕ) (rs ds : List ℕ) : Type 0 where
  pub digits_left : Digits rs ds
  pub whole : number_from number rs ds ≡ number_of radices digits

grows : (n : ℕ) (rs ds : List ℕ) → Digits rs ds → n ≤ number_from n rs ds
grows n rs ds h =
    let front = number_from_front n rs ds h in
    let more : n * 1 ≤ n * count rs = mul-le-mul_left n (count_positive rs (digits_positive rs ds h)) in
    omega arith

module _ {radices digits : List ℕ} {n r d : ℕ} {rs ds later_rs later_ds : List ℕ} (next : (rs ≡ r ∷ later_rs) × (ds ≡ d ∷ later_ds))
    (now : Packing radices digits n rs ds) where
  pub pack_turn : Packing radices digits (n * r + d) later_rs later_ds
  unfolding Digits number_from
  pack_turn =
      let split : Packing radices digits n (r ∷ later_rs) (d ∷ later_ds) = rw (← next.0, ← next.1) now in
      record { digits_left = split.digits_left.1; whole = split.whole }

  -- The number with one digit more has room.
  pub pack_fits : Digits radices digits → count radices ≤ 2 ^ 64 → n * r + d < 2 ^ 64
  pack_fits h room =
      omega (arith, grows (n * r + d) later_rs later_ds pack_turn.digits_left, number_below radices digits h, pack_turn.whole)

-- ---- unpack

-- Before a turn: the digits by the radices that are left, of what is left of the number, and those that are written behind make all its
-- digits; and divided by the radices that are left, what is left of the number is its quotient by all of them.
pub record Unpacking (radices : List ℕ) (number : ℕ) (digits : List ℕ) (rest : ℕ) (left : List ℕ) : Type 0 where
  pub positive : Positive left
  pub within : length left ≤ length digits
  pub quotient : rest / count left ≡ number / count radices
  pub written : digits_of left rest ++ drop (length left) digits ≡ digits_of radices number

pub unpack_starts : (radices : List ℕ) (number : ℕ) (digits : List ℕ) → Positive radices → length digits ≡ length radices
    → Unpacking radices number digits number radices
unpack_starts radices number digits h e = record {
  positive = h;
  within = omega (arith, e);
  quotient = refl;
  written = rw (drop_of_length-le digits {i = length radices} (omega (arith, e))) (append-nil (digits_of radices number));
}

-- The last of the radices that are left.
positive_last : (rs : List ℕ) (r : ℕ) → Positive (rs ++ (r ∷ [])) → Positive rs × (0 < r)
unfolding Positive
positive_last [] r h = (tt, h.0)
positive_last (q ∷ rs) r h = let later = positive_last rs r h.1 in ((h.0, later.0), later.1)

module _ {radices : List ℕ} {number : ℕ} {digits : List ℕ} {rest : ℕ} {left : List ℕ} (before : List ℕ) (r : ℕ) (next : left ≡ before ++ (r ∷ []))
    (now : Unpacking radices number digits rest left) where
  split : Unpacking radices number digits rest (before ++ (r ∷ []))
  split = rw (← next) now

  pub radix_positive : 0 < r
  radix_positive = (positive_last before r split.positive).1

  pub unpack_turn : (i : ℕ) → i ≡ length before → Unpacking radices number (set digits i (rest % r)) (rest / r) before
  unfolding count digits_of
  unpack_turn i e =
      let long : length (before ++ (r ∷ [])) ≡ length before + 1 = length-append before (r ∷ []) in
      let room : length before < length digits = omega (arith, split.within) in
      let divided : rest / r / count before ≡ rest / count (before ++ (r ∷ [])) =
      rw (count_append before (r ∷ []), mul-one, mul_comm (count before) r) (div-div-eq-div-mul rest r (count before)) in
      rw e (record {
        positive = (positive_last before r split.positive).0;
        within = rw length-set (omega arith);
        quotient = divided ∙ split.quotient;
        written = rw (drop-set digits (length before) (rest % r) room, ← split.written, long, digits_of_append, mul-one, div-one, append_assoc);
      })

pub unpack_ends : (radices : List ℕ) (number : ℕ) (digits : List ℕ) (rest : ℕ) (left : List ℕ) → length left ≡ 0
    → Unpacking radices number digits rest left → (rest ≡ number / count radices) × (digits ≡ digits_of radices number)
unfolding count digits_of
unpack_ends radices number digits rest [] e now = (rw div-one at now.quotient, now.written)
unpack_ends radices number digits rest (r ∷ rs) e now = absurd (omega arith)
