-- `u4b::read` meets its contract: what isn't legal is refused as it was; of what is, each step is the definition's, and the rest follows
-- from the definitions' laws.
-- Assumes nothing.
use mathlib.Core.Path.{sym, ◌∙◌}
use Prim.Native.Nat.{◌≤◌}
use native.Mathlib.Omega.{arith}
use Rattle.std.proofs.lemmas.Result.{err_from_is_err_and}
use Rattle.basics.proofs.SearchLaws.{some_below_found, some_below_none}
use Rattle.message.proofs.AnswerLaws.{legal_of_message}
use Rattle.u4b.specs.Alphabet.{first_not_taken}
use Rattle.u4b.specs.Answer.{payload_of, payload_alphabet}
use Rattle.u4b.proofs.CallsignLaws.{third_of, upper_digits_in}
use Rattle.u4b.proofs.AnswerLaws.{read_illegal, read_not_taken, read_payload}
use Rattle.u4b.proofs.RoundTripLaws.{read_promised}
use Rattle.u4b.proofs.read.Goals as goal

pub returns-in_err-message : goal.returns-in_err-message
returns-in_err-message c =
    let a = c.args in
    let passed = err_from_is_err_and c.from_residual.result c.from_residual.ensures.1 in
    rw (passed.1, passed.2)
    (read_promised a.taken a.callsign.now a.locator.now a.power _
    (read_illegal a.taken a.callsign.now a.locator.now a.power _ (sym c.in_err-message.ensures.answer)))

pub overflow_cast-result : goal.overflow_cast-result
overflow_cast-result c = omega (arith, (some_below_found _ _ _ (sym c.first_not_taken.ensures ∙ c.in-Some.is)).1)

pub returns-in-Some : goal.returns-in-Some
returns-in-Some c =
    let a = c.args in
    let parts = c.in_ok-message.ensures.parts in
    let place = some_below_found _ _ _ (sym c.first_not_taken.ensures ∙ c.in-Some.is) in
    read_promised a.taken a.callsign.now a.locator.now a.power _
    (read_not_taken a.taken a.callsign.now a.locator.now a.power (sym c.in_ok-message.ensures.answer) _ (rw (← parts.0) place.0) (omega arith))

pub upper_of-requires : goal.upper_of-requires
upper_of-requires c =
    let l = legal_of_message c.in_ok-message.message (omega arith) (omega arith) in
    let taken = some_below_none _ _ (sym c.first_not_taken.ensures ∙ c.in_default.is) in
    upper_digits_in _ l.six c.args.taken l.callsign_legal (omega (arith, taken))

pub returns : goal.returns
unfolding payload_of
returns c =
    let a = c.args in
    let m = c.in_ok-message.message in
    let l = legal_of_message m (omega arith) (omega arith) in
    let parts = c.in_ok-message.ensures.parts in
    let third = (third_of m.callsign l.six l.callsign_legal).0 in
    let taken : 6 ≤ first_not_taken (payload_alphabet a.taken) m.callsign =
    omega (arith, some_below_none _ _ (sym c.first_not_taken.ensures ∙ c.in_default.is)) in
    rw (c.capital_of.ensures, ← third, c.upper_of.ensures, c.lower_of.ensures, parts.0, parts.1, parts.2)
    (read_promised a.taken a.callsign.now a.locator.now a.power _ (read_payload a.taken a.callsign.now a.locator.now a.power (sym c.in_ok-message.ensures.answer) (rw (← parts.0) taken)))
