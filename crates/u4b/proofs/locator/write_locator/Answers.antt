-- `u4b::locator::write_locator` meets its contract: `radix::unpack` gives the number's digits; four are in their places' sets, and
-- `write_characters` writes their characters; the fifth is the power's index.
-- Assumes nothing.
use mathlib.Core.Path.{refl}
use native.Mathlib.Omega.{arith}
use Rattle.u4b.specs.Characters.{lower_radices, locator_with, power_with}
use Rattle.u4b.proofs.LocatorLaws.{lower_positive, four_digits_at, index_below}
use Rattle.u4b.proofs.locator.write_locator.Goals as goal

pub unpack-requires : goal.unpack-requires
unfolding lower_radices
unpack-requires c =
    record { positive = lower_positive; digits_len = refl }

pub write_characters-requires : goal.write_characters-requires
unfolding lower_radices
write_characters-requires c =
    rw c.unpack.ensures.written (record { bytes_bound = omega arith; digits_len = omega arith; digits_at = four_digits_at c.args.lower })

pub overflow_cast-digits : goal.overflow_cast-digits
unfolding lower_radices
overflow_cast-digits c = record { fits = rw c.unpack.ensures.written (omega (arith, index_below c.args.lower)) }

pub returns-clause-its_power : goal.returns-clause-its_power
unfolding power_with lower_radices
returns-clause-its_power c = rw (c.power_at.ensures, c.unpack.ensures.written)

pub returns-clause-its_locator : goal.returns-clause-its_locator
unfolding locator_with lower_radices
returns-clause-its_locator c = rw (c.write_characters.ensures, c.unpack.ensures.written)
