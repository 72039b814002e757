-- `message::character::write_characters` meets its contract: the loop fills the characters one by one.
-- Assumes nothing.
use mathlib.Core.Path.{sym, ap, ◌∙◌}
use Prim.Native.Nat.{◌+◌}
use native.Mathlib.Omega.{arith}
use Rattle.basics.proofs.Filling.{fill_starts, fill_turn}
use Rattle.message.specs.Character.{character_at, character}
use Rattle.message.proofs.CharacterLaws.{length_characters_from, get_d_characters_from, digit_below, set_end}
use Rattle.message.proofs.character.write_characters.Goals as goal

pub loop-i-init : goal.loop-i-init
loop-i-init c =
    fill_starts _ _ (omega (arith, length_characters_from c.args.start c.args.digits.now))

pub overflow_add-lowest_at : goal.overflow_add-lowest_at
overflow_add-lowest_at c =
    let i = c.loop-i.i in
    omega (arith, digit_below c.args.start c.args.digits.now i c.requires.digits_at (omega arith), set_end (c.args.start + i))

pub loop-i-preserved : goal.loop-i-preserved
unfolding character_at
loop-i-preserved c =
    let start = c.args.start in
    let digits = c.args.digits.now in
    let i = c.loop-i.i in
    let value = c.lowest_at.ensures in
    fill_turn 0 _ _ i _ (omega (arith, length_characters_from start digits))
    (c.character_of.ensures ∙ ap character (omega arith) ∙ sym (get_d_characters_from start digits i (omega arith))) c.loop-i.invariant
