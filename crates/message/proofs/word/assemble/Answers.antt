-- `message::word::assemble` meets its contract: the lower number is below 2^22, so that or is sum.
-- Assumes nothing.
use mathlib.Core.Path.{◌≡◌, ap, ◌∙◌}
use Prim.Native.Nat.{ℕ, ◌+◌, ◌*◌, ◌%◌, ◌^◌, ◌<◌}
use native.Mathlib.Omega.{arith}
use lib.Bits.{bit_or, or_shifted}
use Rattle.message.specs.Word.{word_from, lower_number}
use Rattle.message.proofs.word.assemble.Goals as goal

pub returns : goal.returns
unfolding word_from lower_number
returns c =
    let a = c.args in
    let lower = a.locator * 128 + a.power + 64 in
    let room : lower < 2 ^ 22 = omega arith in
    let whole : a.callsign * 2 ^ 22 % 2 ^ 64 ≡ a.callsign * 2 ^ 22 = omega arith in
    rw c.from.ensures (ap (λ (n : ℕ). bit_or n lower) whole ∙ or_shifted a.callsign 22 lower room)
