-- `message::Message::callsign_number` meets its contract: the digits of legal characters are below the radices, and `radix::pack` packs
-- them.
-- Assumes nothing.
use mathlib.Core.Path.{ap, ◌∙◌}
use native.Mathlib.Omega.{arith}
use Rattle.radix.specs.Numeral.{number_of}
use Rattle.message.specs.Word.{callsign_radices, callsign_number}
use Rattle.message.proofs.WordLaws.{callsign_count, callsign_digits}
use Rattle.message.proofs.AnswerLaws.{legal_of_message}
use Rattle.message.proofs.Message.callsign_number.Goals as goal

pub pack-requires : goal.pack-requires
unfolding callsign_radices
pack-requires c =
    let l = legal_of_message c.args.self.now (omega arith) (omega arith) in
    record { digits = rw c.read_digits.ensures (callsign_digits _ l.six l.callsign_legal); radices_bound = omega (arith, callsign_count) }

pub returns : goal.returns
unfolding callsign_number callsign_radices
returns c = c.pack.ensures ∙ ap (number_of callsign_radices) c.read_digits.ensures
