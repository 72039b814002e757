-- `telemetry_lines::stream::answer` meets its contract: each turn takes a byte of the part.
-- Assumes nothing.
use native.Mathlib.Omega.{arith}
use Rattle.telemetry_lines.proofs.StreamLaws.{answering_starts, answering_room, answering_newline, answering_other}
use Rattle.telemetry_lines.proofs.stream.answer.Goals as goal
use Rattle.telemetry_lines.proofs.stream.answer.Goals.{then-byte-eq-NEWLINE, else-byte-eq-NEWLINE}

pub loop-byte-init : goal.loop-byte-init
loop-byte-init c = rw c.clear.ensures (answering_starts _ _ c.args.line.now.bounded)

pub put_answer-requires : goal.put_answer-requires
put_answer-requires c = omega (arith, answering_room c.loop-byte.invariant (omega arith) c.requires)

pub loop-byte-preserved : goal.loop-byte-preserved
loop-byte-preserved c =
    let l = c.loop-byte in
    elim c.if-byte-eq-NEWLINE.branch [
      | then-byte-eq-NEWLINE w ↦
          rw (w.out-is, w.line-is, w.clear-then-byte-eq-NEWLINE.ensures, w.put_answer.ensures, w.answer.ensures)
          (answering_newline l.invariant (omega arith) w.if-byte-eq-NEWLINE.true)
      | else-byte-eq-NEWLINE w ↦
          rw (w.out-is, w.line-is, w.push.ensures) (answering_other l.invariant (omega arith) w.if-byte-eq-NEWLINE.false)
    ]
