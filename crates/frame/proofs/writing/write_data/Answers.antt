-- `frame::writing::write_data` meets its contract: each turn puts the two coded bits of a step at their places.
-- Assumes nothing.
use mathlib.Core.Path.{◌≡◌, ap, ◌∙◌}
use Prim.Native.Nat.{◌+◌, ◌*◌}
use native.Mathlib.Omega.{arith}
use lib.ListN.{get_or}
use Rattle.basics.proofs.ListLaws.{by_rule}
use Rattle.convolution.specs.Code.{clocked_bits, clocked}
use Rattle.convolution.proofs.CodeLaws.{clocked_below}
use Rattle.convolution.proofs.Coding.{coding_starts, coding_first, coding_second, coding_turn}
use Rattle.interleaver.specs.Places.{index_at, all_indexes}
use Rattle.interleaver.proofs.PlaceLaws.{get_d_indexes}
use Rattle.interleaver.proofs.Placing.{placing_starts, placing_turn, placing_ends}
use Rattle.frame.specs.Symbols.{interleaved}
use Rattle.frame.proofs.writing.write_data.Goals as goal
use Rattle.frame.proofs.writing.write_data.Invariants.{coded}

pub loop-step-init : goal.loop-step-init
loop-step-init c =
    let a = c.args in
    (placing_starts c.table-places.result (coded a.word) a.frame.now c.told-frame, coding_starts a.word)

pub clock-register-requires : goal.clock-register-requires
clock-register-requires c = rw c.clocked_bit.ensures (clocked_below _ _)

pub loop-step-preserved : goal.loop-step-preserved
loop-step-preserved c =
    let word = c.args.word in
    let step = c.loop-step.step in
    let places = c.table-places.result in
    let back = c.table-places.ensures.inverse.indexes_back in
    let coding = c.loop-step.invariant.1 in
    let register : c.clock-register.result ≡ clocked c.loop-step.register (get_or (clocked_bits word) step 0) =
    c.clock-register.ensures ∙ ap (clocked c.loop-step.register) c.clocked_bit.ensures in
    let first = c.first_coded.ensures ∙ coding_first word c.loop-step.register step (omega arith) coding c.clock-register.result register in
    let second = c.second_coded.ensures ∙ coding_second word c.loop-step.register step (omega arith) coding c.clock-register.result register in
    let first_placed =
    placing_turn places all_indexes back (coded word) c.loop-step.frame (2 * step) c.first_coded.result (omega arith) first c.loop-step.invariant.0 in
    let twice : 2 * (step + 1) ≡ 2 * step + 1 + 1 = omega arith in (
      rw (twice, c.from.ensures, c.from-in-loop-step.ensures) (placing_turn places all_indexes back (coded word) _ (2 * step + 1) c.second_coded.result (omega arith) second first_placed),
      coding_turn word c.loop-step.register step (omega arith) coding c.clock-register.result register,
    )

pub returns : goal.returns
unfolding interleaved
returns c =
    let word = c.args.word in
    by_rule 162 (λ place. coded word (index_at place)) c.loop-step.frame c.loop-step.invariant.0.same
    (λ place h.
    placing_ends c.table-places.result all_indexes c.table-places.ensures.inverse.places_back (coded word) c.loop-step.frame (2 * c.loop-step.step) (omega arith) c.loop-step.invariant.0 place h
    ∙ ap (coded word) (get_d_indexes place h))
