-- `u4b::channel::is_first_character` meets its contract: each arm is the definition at its own character, and any other byte is none of them.
-- Assumes nothing.
use mathlib.Core.Path.{◌≡◌, refl, sym}
use Prim.Native.Nat.{ℕ}
use mathlib.Core.Bool.{true, false}
use borrow.Author.Tests.{ne_eqb}
use Rattle.u4b.specs.Channel.{is_first_character}
use Rattle.u4b.specs.declared.channel.FirstCharacters.{FirstCharacters}
use Rattle.u4b.proofs.channel.is_first_character.Goals as goal

-- 0 and Q are taken whatever else is, and no other character but 1.
always : (taken : FirstCharacters) → (is_first_character taken 48 ≡ true) × (is_first_character taken 81 ≡ true)
unfolding is_first_character
always FirstCharacters.ZeroOneQ = (refl, refl)
always FirstCharacters.ZeroQ = (refl, refl)

never : (taken : FirstCharacters) (byte : ℕ) → (byte ≡ 48 → ⊥) → (byte ≡ 49 → ⊥) → (byte ≡ 81 → ⊥) → is_first_character taken byte ≡ false
unfolding is_first_character
never FirstCharacters.ZeroOneQ byte p q r = rw (ne_eqb byte 48 p, ne_eqb byte 49 q, ne_eqb byte 81 r)
never FirstCharacters.ZeroQ byte p q r = rw (ne_eqb byte 48 p, ne_eqb byte 81 r)

pub returns-in-48 : goal.returns-in-48
returns-in-48 c = rw c.in-48.is (sym (always c.args.taken).0)

pub returns-in-ZeroOneQ : goal.returns-in-ZeroOneQ
unfolding is_first_character
returns-in-ZeroOneQ c = rw (c.in-49.is, c.in-ZeroOneQ.is)

pub returns-in-ZeroQ : goal.returns-in-ZeroQ
unfolding is_first_character
returns-in-ZeroQ c = rw (c.in-49.is, c.in-ZeroQ.is)

pub returns-in-81 : goal.returns-in-81
returns-in-81 c = rw c.in-81.is (sym (always c.args.taken).1)

pub returns-in_default : goal.returns-in_default
returns-in_default c =
    let none = c.in_default.in_default-own.rest in
    sym (never c.args.taken c.args.byte none.0.0.1 none.0.1 none.1)
