-- `u4b::alphabet::is_taken_at` meets its contract: each arm is the definition at its own place.
-- Assumes nothing.
use mathlib.Core.Path.{◌∙◌}
use borrow.Author.Tests.{ne_eqb, lt-ltb, le-ltb}
use Rattle.u4b.specs.Alphabet.{taken_at}
use Rattle.u4b.proofs.alphabet.is_taken_at.Goals as goal

pub returns-in-0 : goal.returns-in-0
unfolding taken_at
returns-in-0 c =
    c.is_first_character.ensures ∙ rw (c.in-0.is, c.capital_of.ensures)

pub returns-then-alphabet : goal.returns-then-alphabet
unfolding taken_at
returns-then-alphabet c = rw (c.in-5.is, c.if-alphabet.true)

pub returns-else-alphabet : goal.returns-else-alphabet
unfolding taken_at
returns-else-alphabet c = rw (c.in-5.is, c.if-alphabet.false)

pub returns-in-1 : goal.returns-in-1
unfolding taken_at
returns-in-1 c = rw (ne_eqb _ 0 c.in-1.in_default-own.rest.0.1, lt-ltb _ 3 c.in-1.if-place-lt3-own.true)

pub returns-in_default : goal.returns-in_default
unfolding taken_at
returns-in_default c =
    let none = c.in_default.in_default-own.rest in
    rw (ne_eqb _ 0 none.0.1, le-ltb _ 3 c.in_default.if-place-lt3-own.false, ne_eqb _ 5 none.1)
