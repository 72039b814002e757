-- Laws of fields: a field by its number is that part of what the bars cut the line into.
use mathlib.Core.Path.{◌≡◌, refl, sym, ◌∙◌}
use Prim.Native.Nat.{ℕ, zero, suc, ◌≤◌, ◌<◌}
use native.Mathlib.Omega.{arith}
use mathlib.Core.Bool.{Bool, false}
use mathlib.Core.List.{List, [], ◌∷◌}
use lib.Dec.{ltb, eqb}
use lib.ListN.{length, drop_of_length-le}
use lib.Seq.{take_all}
use borrow.Author.Tests.{ltb-true, ltb-false}
use denote.Ref.{Bor}
use Rattle.std.specs.Prelude.{Option, Some, None}
use Rattle.std.specs.List.{slice_split, slice_get}
use Rattle.std.specs.Option.{unwrap_or, option_map}
use Rattle.std.proofs.lemmas.List.Elements.{All-from_get_or}
use Rattle.std.proofs.lemmas.List.Splits.{slice_split_first, slice_split_none}
use Rattle.std.proofs.lemmas.List.Sums.{fails_before_first}
use Rattle.basics.proofs.Choice.{by_test}
use Rattle.wsjtx_vectors.specs.Field.{bar, index_of, before_bar, after_bar, field_at}

-- |
abbrev pub is_bar : ℕ → Bool
is_bar b = eqb b bar

module _ (line : List ℕ) where
  -- A bar ends the first part.
  parts_at_bar : index_of bar line < length line → slice_split is_bar line ≡ before_bar line ∷ slice_split is_bar (after_bar line)
  unfolding index_of before_bar after_bar
  parts_at_bar h = slice_split_first is_bar line 0 h

  -- Without a bar the line is the one part.
  parts_by_none : length line ≤ index_of bar line → slice_split is_bar line ≡ before_bar line ∷ []
  unfolding index_of before_bar
  parts_by_none h =
      slice_split_none is_bar line (All-from_get_or (λ b. is_bar b ≡ false) line 0 (λ i k. fails_before_first is_bar line i 0 (omega arith)))
      ∙ rw (take_all (index_of bar line) line h) refl

  nothing_after : length line ≤ index_of bar line → after_bar line ≡ []
  unfolding after_bar
  nothing_after h = drop_of_length-le line (omega arith)

no_fields : (n : ℕ) → field_at n [] ≡ []
unfolding field_at before_bar after_bar index_of
no_fields zero = refl
no_fields (suc n) = no_fields n

pub field_is_part : (n : ℕ) (line : List ℕ) → unwrap_or (slice_get (slice_split is_bar line) n) [] ≡ field_at n line
unfolding field_at
field_is_part zero line =
    by_test (ltb (index_of bar line) (length line))
    (λ e. rw (parts_at_bar line (ltb-true _ _ e)) refl)
    (λ e. rw (parts_by_none line (ltb-false _ _ e)) refl)
field_is_part (suc n) line =
    by_test (ltb (index_of bar line) (length line))
    (λ e. rw (parts_at_bar line (ltb-true _ _ e)) (field_is_part n (after_bar line)))
    (λ e. rw (parts_by_none line (ltb-false _ _ e), nothing_after line (ltb-false _ _ e)) (sym (no_fields n)))

-- What is behind a reference that may be none, an empty one in its stead.
pub behind_or_empty : (part : Option (Bor (List ℕ))) (empty : Bor (List ℕ)) → empty.now ≡ []
    → (unwrap_or part empty).now ≡ unwrap_or (option_map (λ x. x.now) part) []
behind_or_empty None empty e = e
behind_or_empty (Some x) empty e = refl
