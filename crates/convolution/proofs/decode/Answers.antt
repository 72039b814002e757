-- `convolution::decode` meets its contract: each turn finds the bit of a pair.
-- Assumes nothing.
use Rattle.std.proofs.Common.{rules, ◌<◌, ◌∙◌}
use native.Mathlib.Omega.{arith}
use Rattle.convolution.proofs.DecodingLaws.{next_bit_below, only_word}
use Rattle.convolution.proofs.Turns.{decoding_fits, decoding_starts, decoding_turn, decoding_ends}
use Rattle.convolution.proofs.decode.Goals as goal

pub loop-pair-init : goal.loop-pair-init
loop-pair-init c = (search rules, search (rules, decoding_starts))

pub clock-register-requires : goal.clock-register-requires
clock-register-requires c = rw c.next_bit-bit.ensures (next_bit_below _ _)

pub overflow_add-word : goal.overflow_add-word
overflow_add-word c =
    let below : c.next_bit-bit.result < 2 = rw c.next_bit-bit.ensures (next_bit_below _ _) in
    let fits = decoding_fits _ c.in-Some.ensures.steps.1 c.loop-pair.invariant.1 _ below in
    omega arith

pub loop-pair-preserved : goal.loop-pair-preserved
loop-pair-preserved c =
    let steps = c.in-Some.ensures.steps in
    let size = c.loop-pair.invariant.0 in (
      steps.0.0 ∙ size,
      rw c.from.ensures (decoding_turn _ steps.1 c.loop-pair.invariant.1 _ _ steps.0.1.0 (steps.0.1.1 ∙ size) _ _ c.next_bit-bit.ensures c.clock-register.ensures),
    )

pub returns : goal.returns
returns c =
    let e =
    decoding_ends c.args.coded c.loop-pair.word c.loop-pair.register _ _ (λ h. rw c.loop-pair.invariant.0 at (c.in-None.ensures.steps h).1.0)
    c.loop-pair.invariant.1 in
    record { answer = e; only = rw e (only_word c.args.coded) }
