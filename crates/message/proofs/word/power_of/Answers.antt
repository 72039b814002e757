-- `message::word::power_of` meets its contract: at each return the tests that led there say which case of the definition holds.
-- Assumes nothing.
use mathlib.Core.Path.{sym, ◌∙◌}
use native.Mathlib.Omega.{arith}
use Rattle.message.specs.Word.{power_part}
use Rattle.message.proofs.AnswerLaws.{word_message_callsign, word_message_locator, word_message_low, word_message_illegal, word_message_power}
use Rattle.message.proofs.word.power_of.Goals as goal
use Rattle.message.proofs.word.power_of.Goals.{then-bits-lt64-via-then-bits-lt64, then-bits-lt64-via-else-bits-lt64+then-not-is_legal}

pub returns-then-callsign_part-ge-CALLSIGNS : goal.returns-then-callsign_part-ge-CALLSIGNS
returns-then-callsign_part-ge-CALLSIGNS c = sym (word_message_callsign c.args.word (omega arith))

pub returns-then-locator_part-ge-LOCATORS : goal.returns-then-locator_part-ge-LOCATORS
returns-then-locator_part-ge-LOCATORS c =
    sym (word_message_locator c.args.word (omega arith) (omega arith))

pub returns-then-bits-lt64 : goal.returns-then-bits-lt64
unfolding power_part
returns-then-bits-lt64 c =
    let word = c.args.word in
    elim c.then-bits-lt64.branch [
      | then-bits-lt64-via-then-bits-lt64 w ↦ sym (word_message_low word (omega arith) (omega arith) (omega arith))
      | then-bits-lt64-via-else-bits-lt64+then-not-is_legal w ↦
          sym (word_message_illegal word (omega arith) (omega arith) (omega arith) (sym w.is_legal.ensures ∙ w.if-not-is_legal.true))
    ]

pub returns : goal.returns
unfolding power_part
returns c =
    let word = c.args.word in
    sym (word_message_power word (omega arith) (omega arith) (omega arith) (sym c.is_legal.ensures ∙ c.if-not-is_legal.false))
