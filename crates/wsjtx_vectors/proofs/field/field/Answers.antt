-- `wsjtx_vectors::field::field` meets its contract: the bars cut the line into its fields.
-- Assumes nothing.
use mathlib.Core.Path.{refl, ap, ◌∙◌}
use mathlib.Core.List.{[]}
use Rattle.std.specs.Option.{unwrap_or}
use Rattle.std.proofs.Common.{rules, tests}
use Rattle.std.proofs.lemmas.Iterator.Consumers.{nth_from_yields_List}
use Rattle.std.proofs.lemmas.Iterator.Splits.{YieldsList-from_slice_split}
use Rattle.wsjtx_vectors.proofs.FieldLaws.{is_bar, field_is_part, behind_or_empty}
use Rattle.wsjtx_vectors.proofs.field.field.Goals as goal

pub returns : goal.returns
returns c =
    let line = c.args.line.now in
    let split = c.split.ensures in
    let part = nth_from_yields_List c.nth.result _ c.args.number c.nth.ensures.ran (YieldsList-from_slice_split _ is_bar line split.rest split.done split.closure (λ x b q k. search (rules, tests))) in
    ap (λ r. r.now) c.unwrap_or.ensures ∙ behind_or_empty c.nth.result _ refl ∙ ap (λ o. unwrap_or o []) part ∙ field_is_part c.args.number line
