-- `frame::symbols::word_of_data` meets its contract: the one word that may have the data bits is encoded anew, and compared.
-- Assumes nothing.
use mathlib.Core.Path.{sym, ap, ◌∙◌}
use mathlib.Core.Bool.{false≢true}
use borrow.Author.Tests.{not-true, not-false}
use Rattle.std.proofs.lemmas.Slice.Eq.{bytes_eq-Decides}
use Rattle.convolution.specs.Decoding.{decoded_word}
use Rattle.frame.proofs.AnswerLaws.{data_word, data_none}
use Rattle.frame.proofs.symbols.word_of_data.Goals as goal

pub returns-then-ne : goal.returns-then-ne
returns-then-ne c =
    let its = c.decode-word.ensures.answer ∙ ap decoded_word c.received_bits-received.ensures in
    let other = not-true _ (sym c.ne.ensures ∙ c.if-ne.true) in
    sym (data_none c.args.frame.now c.requires c.decode-word.result its
    (λ same. false≢true (sym other ∙ (bytes_eq-Decides _ _).1 (c.encode-coded.ensures ∙ same ∙ sym c.received_bits-received.ensures))))

pub returns : goal.returns
returns c =
    let its = c.decode-word.ensures.answer ∙ ap decoded_word c.received_bits-received.ensures in
    let same = (bytes_eq-Decides _ _).0 (not-false _ (sym c.ne.ensures ∙ c.if-ne.false)) in
    sym (data_word c.args.frame.now c.requires c.decode-word.result its (sym c.encode-coded.ensures ∙ same ∙ c.received_bits-received.ensures))
