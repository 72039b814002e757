-- `message::character::first_bad` meets its contract. The loop's invariant: the first bad place from i on is that of all the bytes.
-- Assumes nothing.
use mathlib.Core.Path.{◌≡◌, sym, ap, ◌∙◌}
use Prim.Native.Nat.{ℕ, ◌+◌}
use native.Mathlib.Omega.{arith}
use lib.ListN.{drop}
use Rattle.message.specs.Character.{first_bad, legal_at}
use Rattle.basics.proofs.ListLaws.{search_failed, search_passed, search_over}
use Rattle.basics.proofs.SearchLaws.{some_below_at, some_below_past}
use Rattle.message.proofs.character.first_bad.Goals as goal

pub returns-then-not-is_legal_at : goal.returns-then-not-is_legal_at
returns-then-not-is_legal_at c =
    let a = c.args in
    let its : first_bad a.start a.bytes.now ≡ a.start + c.loop-i.i =
    sym c.loop-i.invariant ∙ search_failed legal_at a.bytes.now c.loop-i.i (a.start + c.loop-i.i) 0 (omega arith) (sym c.is_legal_at.ensures ∙ c.if-not-is_legal_at.true) in
    sym (some_below_at _ _ _ its (omega arith))

pub loop-i-preserved : goal.loop-i-preserved
loop-i-preserved c =
    let a = c.args in
    ap (λ (p : ℕ). first_bad p (drop (c.loop-i.i + 1) a.bytes.now)) (omega arith)
    ∙ search_passed legal_at a.bytes.now c.loop-i.i (a.start + c.loop-i.i) 0 (omega arith) (sym c.is_legal_at.ensures ∙ c.if-not-is_legal_at.false)
    ∙ c.loop-i.invariant

pub returns : goal.returns
returns c =
    let a = c.args in
    let its : first_bad a.start a.bytes.now ≡ a.start + c.loop-i.i =
    sym c.loop-i.invariant ∙ search_over legal_at a.bytes.now c.loop-i.i (a.start + c.loop-i.i) (omega arith) in
    sym (some_below_past _ _ (omega (arith, its)))
