-- `message::character::read_digits` meets its contract: the loop fills the digits one by one.
-- Assumes nothing.
use mathlib.Core.Path.{sym, ◌∙◌}
use native.Mathlib.Omega.{arith}
use Rattle.basics.proofs.Filling.{fill_starts, fill_turn}
use Rattle.message.proofs.CharacterLaws.{length_digits_from, get_d_digits_from}
use Rattle.message.proofs.character.read_digits.Goals as goal

pub loop-i-init : goal.loop-i-init
loop-i-init c =
    fill_starts _ _ (omega (arith, length_digits_from c.args.start c.args.bytes.now))

pub loop-i-preserved : goal.loop-i-preserved
loop-i-preserved c =
    let start = c.args.start in
    let bytes = c.args.bytes.now in
    let i = c.loop-i.i in
    fill_turn 0 _ _ i _ (omega (arith, length_digits_from start bytes))
    (c.digit_at.ensures ∙ sym (get_d_digits_from start bytes i (omega arith))) c.loop-i.invariant
