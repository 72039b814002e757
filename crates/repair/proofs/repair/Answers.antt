-- `repair::repair` meets its contract: each refusal is that of the definition, and what a search found gives the answer defined.
-- Assumes nothing.
use mathlib.Core.Path.{sym, ◌∙◌}
use native.Mathlib.Omega.{arith}
use Rattle.basics.proofs.SearchLaws.{some_below_found, some_below_none}
use Rattle.frame.proofs.SymbolLaws.{symbols_of_search}
use Rattle.repair.proofs.AnswerLaws.{repaired_searched}
use Rattle.repair.proofs.CheckLaws.{repaired_length, repaired_bound, repaired_large}
use Rattle.repair.proofs.BoundLaws.{good_bounds}
use Rattle.repair.proofs.FoundLaws.{bits_received, found_answered}
use Rattle.repair.proofs.Promises.{promised}
use Rattle.repair.proofs.repair.Goals as goal

pub returns-then-frame-ne162 : goal.returns-then-frame-ne162
returns-then-frame-ne162 c =
    let a = c.args in
    promised a.frame.now a.limit a.budget _ (repaired_length a.frame.now a.limit a.budget c.if-frame-ne162.true)

pub returns-in-Some : goal.returns-in-Some
returns-in-Some c =
    let a = c.args in
    let bad = some_below_found _ _ _ (sym c.first_bad_bound.ensures ∙ c.in-Some.is) in
    promised a.frame.now a.limit a.budget _ (repaired_bound a.frame.now a.limit a.budget c.if-frame-ne162.false _ bad.0 bad.1)

pub overflow_cast-result : goal.overflow_cast-result
overflow_cast-result c = omega (arith, some_below_found _ _ _ (sym c.first_large.ensures ∙ c.in-Some-first_large.is))

pub returns-in-Some-first_large : goal.returns-in-Some-first_large
returns-in-Some-first_large c =
    let a = c.args in
    let good = some_below_none _ _ (sym c.first_bad_bound.ensures ∙ c.in_default.is) in
    let large = some_below_found _ _ _ (sym c.first_large.ensures ∙ c.in-Some-first_large.is) in
    promised a.frame.now a.limit a.budget _
    (rw (← large.0) (repaired_large a.frame.now a.limit a.budget c.if-frame-ne162.false good (omega (arith, large, c.if-frame-ne162.false))))

pub search-found-requires : goal.search-found-requires
search-found-requires c =
    let a = c.args in
    let bounds = good_bounds a.limit a.budget (some_below_none _ _ (sym c.first_bad_bound.ensures ∙ c.in_default.is)) in
    let symbols = symbols_of_search a.frame.now c.if-frame-ne162.false (sym c.first_large.ensures ∙ c.in_default-first_large.is) in
    record { data_bits = rw c.received_bits-received.ensures (bits_received a.frame.now symbols); limit_bound = bounds.limit_to_12; budget_bound = bounds.budget_to_65536 }

pub returns : goal.returns
returns c =
    let a = c.args in
    let bounds = good_bounds a.limit a.budget (some_below_none _ _ (sym c.first_bad_bound.ensures ∙ c.in_default.is)) in
    let symbols = symbols_of_search a.frame.now c.if-frame-ne162.false (sym c.first_large.ensures ∙ c.in_default-first_large.is) in
    let searched = rw c.received_bits-received.ensures at c.search-found.ensures in
    promised a.frame.now a.limit a.budget _
    (repaired_searched a.frame.now a.limit a.budget symbols bounds
    ∙ sym (c.answer.ensures ∙ found_answered a.frame.now a.limit a.budget _ _ searched c.wrong_sync.ensures))
