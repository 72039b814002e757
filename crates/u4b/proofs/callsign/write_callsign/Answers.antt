-- `u4b::callsign::write_callsign` meets its contract: `radix::unpack` gives the number's digits, which are in their places' sets;
-- `write_characters` writes their characters, and the channel's are set after it.
-- Assumes nothing.
use mathlib.Core.Path.{refl, sym}
use native.Mathlib.Omega.{arith}
use Rattle.u4b.specs.Characters.{upper_radices}
use Rattle.u4b.proofs.CallsignLaws.{upper_positive, six_digits_at, callsign_with_characters}
use Rattle.u4b.proofs.callsign.write_callsign.Goals as goal

pub unpack-requires : goal.unpack-requires
unfolding upper_radices
unpack-requires c =
    record { positive = upper_positive; digits_len = refl }

pub write_characters-requires : goal.write_characters-requires
unfolding upper_radices
write_characters-requires c =
    rw c.unpack.ensures.written (record { bytes_bound = omega arith; digits_len = omega arith; digits_at = six_digits_at c.args.upper })

pub returns : goal.returns
unfolding upper_radices
returns c = rw (c.write_characters.ensures, c.unpack.ensures.written) (sym (callsign_with_characters c.args.channel c.args.upper))
