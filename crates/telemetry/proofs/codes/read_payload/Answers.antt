-- `telemetry::codes::read_payload` meets its contract: each test is the definition's, in its order.
-- Assumes nothing.
use mathlib.Core.Path.{sym, ap, ◌∙◌}
use native.Mathlib.Omega.{arith}
use Rattle.std.specs.Prelude.{Ok}
use Rattle.telemetry.proofs.AnswerLaws.{payload_position, payload_sensors, payload_reading}
use Rattle.telemetry.proofs.codes.read_payload.Goals as goal

pub returns-then-payload-ge-POSITION_COUNT : goal.returns-then-payload-ge-POSITION_COUNT
returns-then-payload-ge-POSITION_COUNT c = sym (payload_position c.args.payload (omega (arith, c.if-payload-ge-POSITION_COUNT.true)))

pub returns-then-payload-ge-SENSOR_COUNT : goal.returns-then-payload-ge-SENSOR_COUNT
returns-then-payload-ge-SENSOR_COUNT c =
    sym (payload_sensors c.args.payload (omega (arith, c.if-payload-ge-POSITION_COUNT.false)) (omega (arith, c.if-payload-ge-SENSOR_COUNT.true)))

pub returns : goal.returns
returns c =
    ap Ok c.reading_of.ensures
    ∙ sym (payload_reading c.args.payload (omega (arith, c.if-payload-ge-POSITION_COUNT.false)) (omega (arith, c.if-payload-ge-SENSOR_COUNT.false)))
