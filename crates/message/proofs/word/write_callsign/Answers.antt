-- `message::word::write_callsign` meets its contract: `radix::unpack` gives digits that are below the sizes of their sets, and
-- `write_characters` writes their characters.
-- Assumes nothing.
use mathlib.Core.Path.{◌≡◌, refl, ap, ◌∙◌}
use native.Mathlib.Omega.{arith}
use Rattle.radix.specs.Numeral.{digits_of}
use Rattle.message.specs.Word.{callsign_radices, callsign_part, callsign_with_number, callsign_of}
use Rattle.message.proofs.WordLaws.{callsign_positive, callsign_digits_at}
use Rattle.message.proofs.word.write_callsign.Goals as goal

pub unpack-requires : goal.unpack-requires
unfolding callsign_radices
unpack-requires c = record { positive = callsign_positive; digits_len = refl }

pub write_characters-requires : goal.write_characters-requires
unfolding callsign_radices digits_of
write_characters-requires c =
    let its : c.unpack.new.digits ≡ digits_of callsign_radices (callsign_part c.args.word) = c.unpack.ensures.written ∙ ap (digits_of callsign_radices) c.callsign_part.ensures in
    rw its (record { bytes_bound = omega arith; digits_len = omega arith; digits_at = callsign_digits_at _ })

pub returns : goal.returns
unfolding callsign_with_number callsign_of callsign_radices
returns c =
    rw (c.write_characters.ensures, c.unpack.ensures.written, c.callsign_part.ensures)
