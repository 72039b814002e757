-- `message::character::first_bad_of` meets its contract: the first bad place of the callsign, or else of the locator.
-- Assumes nothing.
use mathlib.Core.Path.{◌≡◌, refl, sym, ◌∙◌}
use Prim.Native.Nat.{◌+◌}
use native.Mathlib.Omega.{arith}
use mathlib.Core.List.{◌++◌}
use lib.ListN.{length}
use Rattle.basics.proofs.ListLaws.{first_failing_first, all_pass, first_failing_append}
use Rattle.basics.proofs.SearchLaws.{some_below_found, some_below_none, some_below_at}
use Rattle.message.specs.Character.{first_bad, legal_at}
use Rattle.message.proofs.character.first_bad_of.Goals as goal

pub returns-in-Some : goal.returns-in-Some
returns-in-Some c =
    let callsign = c.args.callsign.now in
    let locator = c.args.locator.now in
    let first = first_bad 0 callsign in
    let found = some_below_found _ first _ (sym c.first_bad.ensures ∙ c.in-Some.is) in
    let whole : first_bad 0 (callsign ++ locator) ≡ first = first_failing_first legal_at 0 callsign locator (omega (arith, found.0, found.1)) in
    sym (some_below_at 10 _ _ (whole ∙ found.0) (omega (arith, found.1)))

pub returns-in-None : goal.returns-in-None
returns-in-None c =
    let callsign = c.args.callsign.now in
    let locator = c.args.locator.now in
    let past = some_below_none _ _ (sym c.first_bad.ensures ∙ c.in-None.is) in
    let legal = all_pass legal_at 0 callsign (omega (arith, past)) in
    let whole : first_bad 0 (callsign ++ locator) ≡ first_bad 6 locator = first_failing_append legal_at 0 6 callsign locator (omega arith) legal in
    let end : 6 + length locator ≡ 10 = omega arith in
    rw whole (c.first_bad-in-None.ensures ∙ rw end refl)
