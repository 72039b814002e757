-- `repair::cost::step_cost` meets its contract: each of the two coded bits is compared with its received bit.
-- Assumes nothing.
use mathlib.Core.Path.{◌≡◌, refl, sym, ◌∙◌}
use mathlib.Core.Bool.{Bool, true, false, not, cond}
use mir.Val.{bool_byte}
use Prim.Native.Nat.{◌*◌, ◌+◌}
use lib.ListN.{get_or}
use native.Mathlib.Omega.{arith}
use Rattle.distance.specs.Prefixes.{unlike}
use Rattle.distance.proofs.StepLaws.{step_cost_at}
use Rattle.repair.proofs.cost.step_cost.Goals as goal

-- The number of a test that two bits differ.
unlike_number : (same : Bool) → bool_byte (not same) ≡ cond same 0 1
unlike_number true = refl
unlike_number false = refl

pub returns : goal.returns
returns c =
    let a = c.args in
    let received = a.received.now in
    let first : c.from.result ≡ unlike c.first_coded.result (get_or received (2 * a.depth) 0) = c.from.ensures ∙ unlike_number _ in
    let second : c.from-2.result ≡ unlike c.second_coded.result (get_or received (2 * a.depth + 1) 0) = c.from-2.ensures ∙ unlike_number _ in
    rw (first, second, c.second_coded.ensures, c.first_coded.ensures)
    (sym (step_cost_at received (2 * a.depth) a.register (omega arith)))
