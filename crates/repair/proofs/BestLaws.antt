-- The record of the nearest word so far: what it says before any word, with one word more, and with words that change nothing. A word's
-- disagreements are its distance here.
use mathlib.Core.Path.{◌≡◌}
use Prim.Native.Nat.{ℕ, ◌+◌, ◌≤◌, ◌<◌}
use native.Mathlib.Omega.{arith}
use mathlib.Core.List.{List}
use borrow.Author.Tests.{lt-ltb, le-ltb}
use Rattle.basics.proofs.Choice.{below_or_not}
use Rattle.distance.specs.Prefixes.{word_disagreements}
use Rattle.repair.specs.Search.{none_found, best_with, BestBelow}
use Rattle.repair.specs.declared.best.Best.{Best}

-- ---- The cases of a word more

module _ (best : Best) (word distance : ℕ) where
  pub with_nearest : distance < best.fewest → best_with best word distance ≡ record { word = word; fewest = distance; next = best.fewest }
  unfolding best_with
  with_nearest h = rw (lt-ltb distance best.fewest h)

  pub with_next : best.fewest ≤ distance → distance < best.next
      → best_with best word distance ≡ record { word = best.word; fewest = best.fewest; next = distance }
  unfolding best_with
  with_next h k = rw (le-ltb distance best.fewest h, lt-ltb distance best.next k)

  pub with_neither : best.fewest ≤ distance → best.next ≤ distance → best_with best word distance ≡ best
  unfolding best_with
  with_neither h k = rw (le-ltb distance best.fewest h, le-ltb distance best.next k)

-- ---- What the record says

module _ (received : List ℕ) (limit : ℕ) where
  abbrev of : ℕ → ℕ
  of word = word_disagreements received word

  pub best_starts : BestBelow received limit 0 (none_found limit)
  unfolding none_found
  best_starts =
      record {
        in_order = omega arith;
        next_most = omega arith;
        fewest_least = λ word h. absurd (omega arith);
        next_least = λ word h other. absurd (omega arith);
        fewest_found = λ h. absurd (omega arith);
        next_found = λ h. absurd (omega arith);
      }

  -- Words with no fewer disagreements than the next fewest change nothing.
  pub best_passes : (bound more : ℕ) (best : Best) → bound ≤ more → ((word : ℕ) → bound ≤ word → word < more → best.next ≤ of word)
      → BestBelow received limit bound best → BestBelow received limit more best
  best_passes bound more best h far b =
      record {
        in_order = b.in_order;
        next_most = b.next_most;
        fewest_least =
            λ word k.
            below_or_not word bound
            (b.fewest_least word)
            (λ later. omega (arith, b.in_order, far word later k));
        next_least =
            λ word k other.
            below_or_not word bound
            (λ earlier. b.next_least word earlier other)
            (λ later. far word later k);
        fewest_found = λ k. let found = b.fewest_found k in (omega (arith, found.0), found.1);
        next_found = λ k. let found = b.next_found k in (found.0, (omega (arith, found.1.0), found.1.1));
      }

  -- One word more, within the limit.
  module _ (bound distance : ℕ) (best : Best) (its : of bound ≡ distance) (near : distance ≤ limit) (b : BestBelow received limit bound best) where
    -- What holds of the words before it and of itself holds of one more.
    one_more : (least : ℕ) → ((word : ℕ) → word < bound → least ≤ of word) → least ≤ distance → (word : ℕ) → word < bound + 1 → least ≤ of word
    one_more least before itself word h =
        below_or_not word bound
        (before word)
        (λ later. let same : word ≡ bound = omega arith in rw (same, its) itself)

    found_before : best.fewest ≤ limit → best.word < bound
    found_before k = (b.fewest_found k).0

    pub best_takes : BestBelow received limit (bound + 1) (best_with best bound distance)
    best_takes =
        below_or_not distance best.fewest
        (λ less. rw (with_nearest best bound distance less) (nearest less))
        (λ no_less.
        below_or_not distance best.next
        (λ less. rw (with_next best bound distance no_less less) (second no_less less))
        (λ neither. rw (with_neither best bound distance no_less neither) (unchanged neither)))
      where
        nearest : distance < best.fewest → BestBelow received limit (bound + 1) (record { word = bound; fewest = distance; next = best.fewest })
        nearest less =
            record {
              in_order = omega arith;
              next_most = omega (arith, b.in_order, b.next_most);
              fewest_least = one_more distance (λ word h. omega (arith, b.fewest_least word h)) (omega arith);
              next_least = λ word h other. b.fewest_least word (below_or_not word bound (λ k. k) (λ k. absurd (other (omega arith))));
              fewest_found = λ h. (omega arith, its);
              next_found =
                  λ h.
                  let found = b.fewest_found h in
                  (best.word, (omega (arith, found.0), ((λ same. absurd (omega (arith, found.0))), found.1)));
            }

        second : best.fewest ≤ distance → distance < best.next
            → BestBelow received limit (bound + 1) (record { word = best.word; fewest = best.fewest; next = distance })
        second no_less less =
            record {
              in_order = no_less;
              next_most = omega (arith, b.next_most);
              fewest_least = one_more best.fewest b.fewest_least no_less;
              next_least =
                  λ word h other.
                  below_or_not word bound
                  (λ before. omega (arith, b.next_least word before other))
                  (λ later. let same : word ≡ bound = omega arith in rw (same, its) (omega arith));
              fewest_found = λ h. let found = b.fewest_found h in (omega (arith, found.0), found.1);
              next_found =
                  λ h. (bound, (omega arith, ((λ same. absurd (omega (arith, found_before (omega arith)))), its)));
            }

        unchanged : best.next ≤ distance → BestBelow received limit (bound + 1) best
        unchanged neither =
            best_passes bound (bound + 1) best (omega arith) (λ word from to. let same : word ≡ bound = omega arith in rw (same, its) neither) b
