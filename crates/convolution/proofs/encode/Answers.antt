-- `convolution::encode` meets its contract: each turn writes the two coded bits of a step.
-- Assumes nothing.
use mathlib.Core.Path.{ap, ◌∙◌}
use native.Mathlib.Omega.{arith}
use Rattle.convolution.specs.Code.{clocked}
use Rattle.convolution.proofs.CodeLaws.{clocked_below}
use Rattle.convolution.proofs.Turns.{encoding_starts, encoding_turn, encoding_ends}
use Rattle.convolution.proofs.encode.Goals as goal

pub loop-step-init : goal.loop-step-init
loop-step-init c = encoding_starts c.args.word

pub clock-register-requires : goal.clock-register-requires
clock-register-requires c = rw c.clocked_bit.ensures (clocked_below _ _)

pub loop-step-preserved : goal.loop-step-preserved
loop-step-preserved c =
    let a = c.args in
    encoding_turn a.word c.loop-step.coded c.loop-step.register c.loop-step.step (omega arith) c.loop-step.invariant
    c.clock-register.result (c.clock-register.ensures ∙ ap (clocked c.loop-step.register) c.clocked_bit.ensures)
    c.first_coded.result c.second_coded.result c.first_coded.ensures c.second_coded.ensures

pub returns : goal.returns
returns c =
    encoding_ends c.args.word c.loop-step.coded c.loop-step.register c.loop-step.step (omega arith) c.loop-step.invariant
