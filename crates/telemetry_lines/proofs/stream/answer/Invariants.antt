-- `telemetry_lines::stream::answer` meets its contract: each turn takes a byte of the part.
-- Assumes nothing.
use Rattle.telemetry_lines.specs.Stream.{held_by}
use Rattle.telemetry_lines.proofs.StreamLaws.{Answering}
use Rattle.telemetry_lines.proofs.stream.answer.Given as goal

abbrev pub invariant-loop-byte : goal.invariant-loop-byte
invariant-loop-byte l = Answering (held_by l.initial.line) l.input (held_by l.line) l.out.items l.byte-index
