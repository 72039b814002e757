-- `message::Message::locator_number` meets its contract: 17 - a, 9 - c, b, d of legal characters are below the radices, and the number
-- that `radix::pack` makes of them is that of the definition's formula.
-- Assumes nothing.
use mathlib.Core.Path.{sym, ap, ◌∙◌}
use native.Mathlib.Omega.{arith}
use Prim.Native.Nat.{ℕ}
use mathlib.Core.List.{List}
use Rattle.radix.specs.Numeral.{number_of}
use Rattle.message.specs.Word.{locator_radices}
use Rattle.message.proofs.WordLaws.{InSets, locator_digits, locator_count, locator_in_sets, locator_digits_in_range, locator_number_digits}
use Rattle.message.proofs.AnswerLaws.{legal_of_message}
use Rattle.message.proofs.Message.locator_number.Goals as goal

pub overflow_sub-digits : goal.overflow_sub-digits
overflow_sub-digits c =
    let l = legal_of_message c.args.self.now (omega arith) (omega arith) in
    let v : InSets c.read_digits.new.digits = rw c.read_digits.ensures (locator_in_sets _ l.four l.locator_legal) in
    omega arith

pub overflow_sub-digits-2 : goal.overflow_sub-digits-2
overflow_sub-digits-2 c =
    let l = legal_of_message c.args.self.now (omega arith) (omega arith) in
    let v : InSets c.read_digits.new.digits = rw c.read_digits.ensures (locator_in_sets _ l.four l.locator_legal) in
    omega arith

pub pack-requires : goal.pack-requires
unfolding locator_radices
pack-requires c =
    let l = legal_of_message c.args.self.now (omega arith) (omega arith) in
    let v : InSets c.read_digits.new.digits = rw c.read_digits.ensures (locator_in_sets _ l.four l.locator_legal) in
    record { digits = locator_digits_in_range _ v; radices_bound = omega (arith, locator_count) }

pub returns : goal.returns
unfolding locator_radices
returns c =
    let l = legal_of_message c.args.self.now (omega arith) (omega arith) in
    c.pack.ensures ∙ ap (λ (vs : List ℕ). number_of locator_radices (locator_digits vs)) c.read_digits.ensures
    ∙ sym (locator_number_digits _ l.four l.locator_legal)
