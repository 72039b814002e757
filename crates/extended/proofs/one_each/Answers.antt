-- `extended::one_each` meets its contract: the remainder and the quotient by 3 tell whether a number is three times another.
-- Assumes nothing.
use mathlib.Core.Path.{◌≡◌, sym, ◌∙◌}
use Prim.Native.Nat.{ℕ, ◌*◌, ◌/◌, ◌%◌}
use native.Mathlib.Omega.{arith}
use mathlib.Core.Bool.{false}
use lib.Dec.{eqb}
use borrow.Author.Tests.{eq-eqb, ne_eqb}
use Rattle.basics.proofs.Choice.{equal_or_not}
use Rattle.extended.specs.Answer.{one_each}
use Rattle.extended.proofs.one_each.Goals as goal

by-quotient : (m n : ℕ) → m % 3 ≡ 0 → eqb (m / 3) n ≡ one_each m n
unfolding one_each
by-quotient m n e =
    equal_or_not m (3 * n) (λ k. rw (eq-eqb m (3 * n) k) (eq-eqb (m / 3) n (omega arith)))
    (λ k. rw (ne_eqb m (3 * n) k) (ne_eqb (m / 3) n (λ q. k (omega arith))))

no_remainder : (m n : ℕ) → (m % 3 ≡ 0 → ⊥) → one_each m n ≡ false
unfolding one_each
no_remainder m n ne = ne_eqb m (3 * n) (λ e. ne (omega arith))

pub returns-then-numbers-eq0 : goal.returns-then-numbers-eq0
returns-then-numbers-eq0 c = by-quotient c.args.numbers c.args.readings c.if-numbers-eq0.true

pub returns-else-numbers-eq0 : goal.returns-else-numbers-eq0
returns-else-numbers-eq0 c =
    ne_eqb (c.args.numbers % 3) 0 c.if-numbers-eq0.false ∙ sym (no_remainder c.args.numbers c.args.readings c.if-numbers-eq0.false)
