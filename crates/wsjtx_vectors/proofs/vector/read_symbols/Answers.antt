-- `wsjtx_vectors::vector::read_symbols` meets its contract: each symbol is the value of its byte.
-- Assumes nothing.
use mathlib.Core.Path.{sym, ◌∙◌}
use native.Mathlib.Omega.{arith}
use lib.ListN.{get_or}
use Rattle.std.proofs.Common.{rules, tests}
use Rattle.std.proofs.lemmas.List.{same_lists}
use Rattle.wsjtx_vectors.specs.Number.{byte_value}
use Rattle.wsjtx_vectors.proofs.VectorLaws.{length_symbols, symbol_at, made_at}
use Rattle.wsjtx_vectors.proofs.vector.read_symbols.Goals as goal

pub returns : goal.returns
unfolding byte_value
returns c =
    let text = c.args.text.now in
    let items = c.from_fn.ensures.items in
    same_lists _ _ (omega (arith, items.long, length_symbols text))
    (λ k d h. made_at _ _ (λ i. byte_value (get_or text i 0)) (λ i y q call. search (rules, tests)) _ 0 162 items.each k d (omega arith) (omega (arith, items.long))
    ∙ sym (symbol_at text k d (omega (arith, items.long))))
