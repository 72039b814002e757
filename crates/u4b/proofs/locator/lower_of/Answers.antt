-- `u4b::locator::lower_of` meets its contract: the digits of the four places and the power's index are below their radices, and
-- `radix::pack` makes their number.
-- Assumes nothing.
use mathlib.Core.Path.{◌≡◌, sym, ◌∙◌}
use Rattle.std.specs.Prelude.{Some}
use Rattle.power.proofs.Laws.{some_index}
use Rattle.power.specs.Powers.{power_index}
use native.Mathlib.Omega.{arith}
use Rattle.u4b.specs.Characters.{lower_radices, lower_of}
use Rattle.u4b.proofs.LocatorLaws.{lower_count, lower_digits_in}
use Rattle.message.proofs.AnswerLaws.{legal_of_message}
use Rattle.u4b.proofs.locator.lower_of.Goals as goal

pub unwrap-index-requires : goal.unwrap-index-requires
unwrap-index-requires c = rw (c.index_of.ensures ∙ some_index c.args.message.now.power c.args.message.now.power_legal)

pub pack-requires : goal.pack-requires
unfolding lower_radices
pack-requires c =
    let m = c.args.message.now in
    let l = legal_of_message m (omega arith) (omega arith) in
    let found : Some c.unwrap-index.result ≡ Some (power_index m.power) = sym c.unwrap-index.ensures ∙ (c.index_of.ensures ∙ some_index m.power l.power_legal) in
    let index : c.unwrap-index.result ≡ power_index m.power = cc in
    record {
      digits = rw (c.read_digits.ensures, c.from.ensures, index) (lower_digits_in m.locator m.power l.four l.locator_legal l.power_legal);
      radices_bound = omega (arith, lower_count);
    }

pub returns : goal.returns
unfolding lower_radices lower_of
returns c =
    let m = c.args.message.now in
    let found : Some c.unwrap-index.result ≡ Some (power_index m.power) = sym c.unwrap-index.ensures ∙ (c.index_of.ensures ∙ some_index m.power m.power_legal) in
    let index : c.unwrap-index.result ≡ power_index m.power = cc in
    c.pack.ensures ∙ rw (c.read_digits.ensures, c.from.ensures, index)
