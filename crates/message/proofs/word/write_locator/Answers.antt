-- `message::word::write_locator` meets its contract: `radix::unpack` gives the digits; the values that they give are below the sizes of
-- their sets, and `write_characters` writes their characters.
-- Assumes nothing.
use mathlib.Core.Path.{refl}
use native.Mathlib.Omega.{arith}
use Rattle.radix.specs.Numeral.{Digits, digits_of}
use Rattle.radix.proofs.Laws.{digits_in_range}
use Rattle.message.specs.Word.{locator_radices, locator_values, locator_part, locator_with_number, locator_of}
use Rattle.message.proofs.WordLaws.{locator_positive, locator_values_at}
use Rattle.message.proofs.word.write_locator.Goals as goal

pub unpack-requires : goal.unpack-requires
unfolding locator_radices
unpack-requires c = record { positive = locator_positive; digits_len = refl }

pub overflow_sub-values : goal.overflow_sub-values
unfolding locator_radices Digits digits_of
overflow_sub-values c =
    let d = digits_in_range locator_radices (locator_part c.args.word) locator_positive in
    rw (c.unpack.ensures.written, c.locator_part.ensures) (omega arith)

pub overflow_sub-values-2 : goal.overflow_sub-values-2
unfolding locator_radices Digits digits_of
overflow_sub-values-2 c =
    let d = digits_in_range locator_radices (locator_part c.args.word) locator_positive in
    rw (c.unpack.ensures.written, c.locator_part.ensures) (omega arith)

pub write_characters-requires : goal.write_characters-requires
unfolding locator_radices locator_values
write_characters-requires c =
    rw (c.unpack.ensures.written, c.locator_part.ensures) (record { bytes_bound = omega arith; digits_len = omega arith; digits_at = locator_values_at _ })

pub returns : goal.returns
unfolding locator_values locator_with_number locator_of locator_radices
returns c = rw (c.write_characters.ensures, c.unpack.ensures.written, c.locator_part.ensures)
