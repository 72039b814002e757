-- `u4b::callsign::upper_of` meets its contract: the digits of places 1, 3, 4, 5 are below their radices, and `radix::pack` makes their
-- number.
-- Assumes nothing.
use mathlib.Core.Path.{◌∙◌}
use native.Mathlib.Omega.{arith}
use Rattle.u4b.specs.Characters.{upper_radices, upper_digits, upper_of}
use Rattle.u4b.proofs.CallsignLaws.{upper_count}
use Rattle.u4b.proofs.callsign.upper_of.Goals as goal

pub pack-requires : goal.pack-requires
unfolding upper_radices upper_digits
pack-requires c =
    record { digits = rw c.read_digits.ensures c.requires; radices_bound = omega (arith, upper_count) }

pub returns : goal.returns
unfolding upper_radices upper_digits upper_of
returns c =
    c.pack.ensures ∙ rw c.read_digits.ensures
