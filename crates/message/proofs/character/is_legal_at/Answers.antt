-- `message::character::is_legal_at` meets its contract: its two tests are the definition's.
-- Assumes nothing.
use Prim.Native.Nat.{◌≤◌, ◌<◌}
use native.Mathlib.Omega.{arith}
use borrow.Author.Tests.{le-leb, lt-leb}
use Rattle.message.specs.Character.{value, set_at, legal_at}
use Rattle.message.proofs.CharacterLaws.{set_end}
use Rattle.message.proofs.character.is_legal_at.Goals as goal

pub overflow_add-result : goal.overflow_add-result
overflow_add-result c =
    let end = set_end c.args.place in
    omega arith

pub returns-then-lowest-value : goal.returns-then-lowest-value
unfolding legal_at
returns-then-lowest-value c =
    let a = c.args in
    let lowest : (set_at a.place).lowest ≤ value a.byte = omega arith in
    rw (c.value_of-value.ensures, c.lowest_at-lowest.ensures, c.size_at.ensures, le-leb _ _ lowest)

pub returns-else-lowest-value : goal.returns-else-lowest-value
unfolding legal_at
returns-else-lowest-value c =
    let a = c.args in
    let lower : value a.byte < (set_at a.place).lowest = omega arith in
    rw (c.value_of-value.ensures, c.lowest_at-lowest.ensures, lt-leb _ _ lower)
