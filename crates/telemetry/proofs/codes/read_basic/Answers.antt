-- `telemetry::codes::read_basic` meets its contract: the test of the lowest digit is the definition's, and so is what is past it.
-- Assumes nothing.
use mathlib.Core.Path.{sym, ◌∙◌}
use Rattle.telemetry.proofs.AnswerLaws.{basic_extended, basic_numbers}
use Rattle.telemetry.proofs.codes.read_basic.Goals as goal

pub returns-then-payload-ne-BASIC_BIT : goal.returns-then-payload-ne-BASIC_BIT
returns-then-payload-ne-BASIC_BIT c = sym (basic_extended c.args.payload c.if-payload-ne-BASIC_BIT.true)

pub returns : goal.returns
returns c = c.read_payload.ensures ∙ sym (basic_numbers c.args.payload c.if-payload-ne-BASIC_BIT.false)
