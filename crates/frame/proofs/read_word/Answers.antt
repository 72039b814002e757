-- `frame::read_word` meets its contract: one case of the answer's definition at each return; the rest follows from the definition's laws.
-- Assumes nothing.
use mathlib.Core.Path.{sym, ◌∙◌}
use native.Mathlib.Omega.{arith}
use Rattle.basics.proofs.SearchLaws.{some_below_found, some_below_none}
use Rattle.frame.proofs.SymbolLaws.{form_of_searches}
use Rattle.frame.proofs.AnswerLaws.{read_length, read_large, read_sync, read_form}
use Rattle.frame.proofs.RoundTripLaws.{read_word_promised}
use Rattle.frame.proofs.read_word.Goals as goal

pub returns-then-frame-ne162 : goal.returns-then-frame-ne162
returns-then-frame-ne162 c =
    let frame = c.args.frame.now in
    read_word_promised frame _ (read_length frame (λ e. c.if-frame-ne162.true e))

pub overflow_cast-result : goal.overflow_cast-result
overflow_cast-result c = omega (arith, some_below_found _ _ _ (sym c.first_large.ensures ∙ c.in-Some.is))

pub overflow_cast-result-in-Some-first_wrong_sync : goal.overflow_cast-result-in-Some-first_wrong_sync
overflow_cast-result-in-Some-first_wrong_sync c = omega (arith, some_below_found _ _ _ (sym c.first_wrong_sync.ensures ∙ c.in-Some-first_wrong_sync.is))

pub returns-in-Some : goal.returns-in-Some
returns-in-Some c =
    let frame = c.args.frame.now in
    let large = some_below_found _ _ _ (sym c.first_large.ensures ∙ c.in-Some.is) in
    read_word_promised frame _ (read_large frame (omega arith) _ (sym large.0) (omega (arith, large.1)))

pub returns-in-Some-first_wrong_sync : goal.returns-in-Some-first_wrong_sync
returns-in-Some-first_wrong_sync c =
    let frame = c.args.frame.now in
    let small = some_below_none _ _ (sym c.first_large.ensures ∙ c.in_default.is) in
    let wrong = some_below_found _ _ _ (sym c.first_wrong_sync.ensures ∙ c.in-Some-first_wrong_sync.is) in
    read_word_promised frame _ (read_sync frame (omega arith) (omega (arith, small)) _ (sym wrong.0) (omega (arith, wrong.1)))

pub word_of_data-requires : goal.word_of_data-requires
word_of_data-requires c =
    form_of_searches c.args.frame.now (omega arith) (sym c.first_large.ensures ∙ c.in_default.is) (sym c.first_wrong_sync.ensures ∙ c.in_default-first_wrong_sync.is)

pub returns : goal.returns
returns c =
    let frame = c.args.frame.now in
    let form = form_of_searches frame (omega arith) (sym c.first_large.ensures ∙ c.in_default.is) (sym c.first_wrong_sync.ensures ∙ c.in_default-first_wrong_sync.is) in
    read_word_promised frame _ (read_form frame form ∙ sym c.word_of_data.ensures)
