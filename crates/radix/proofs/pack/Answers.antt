-- `radix::pack` meets its contract. The loop's invariant: going on from the number with the radices and digits that are left
-- gives the number of all the digits.
-- Assumes nothing.
use mathlib.Core.Path.{sym}
use native.Mathlib.Omega.{arith}
use Rattle.std.proofs.lemmas.Iterator.{empty_from_Zip}
use Rattle.radix.specs.Numeral.{number_from}
use Rattle.radix.proofs.Laws.{digits_length}
use Rattle.radix.proofs.Turns.{pack_turn, pack_fits}
use Rattle.radix.proofs.pack.Goals as goal

pub overflow_mul-number : goal.overflow_mul-number
overflow_mul-number c =
    omega (arith, pack_fits c.in-Some.ensures.steps c.loop-radix.invariant c.requires.digits c.requires.radices_bound)

pub overflow_add-number : goal.overflow_add-number
overflow_add-number c =
    omega (arith, pack_fits c.in-Some.ensures.steps c.loop-radix.invariant c.requires.digits c.requires.radices_bound)

pub loop-radix-preserved : goal.loop-radix-preserved
loop-radix-preserved c = pack_turn c.in-Some.ensures.steps c.loop-radix.invariant

pub returns : goal.returns
unfolding number_from
returns c =
    let now = c.loop-radix.invariant in
    let ends = empty_from_Zip c.loop-radix.radix-iterator c.next.new.self _ c.in-None.is c.next.ensures.steps (sym (digits_length _ _ now.digits_left)) in
    rw ends.0 at now.whole
