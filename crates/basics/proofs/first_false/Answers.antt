-- `basics::first_false` meets its contract: the library's `position` of what isn't true.
-- Assumes nothing.
use Rattle.std.proofs.Common.{◌∙◌, refl, not, false, rules, tests}
use Rattle.std.proofs.lemmas.Iterator.{YieldsList-from_slice}
use Rattle.std.proofs.lemmas.Iterator.Search.{position_from_yields_List}
use Rattle.basics.specs.Lists.{is_true}
use Rattle.basics.proofs.SearchLaws.{position_first_failing}
use Rattle.basics.proofs.first_false.Goals as goal

pub returns : goal.returns
returns c =
    let its = c.args.tests.now in
    position_from_yields_List not _ _ _ c.position.ensures.ran (YieldsList-from_slice its cc) (λ x b q k. search (rules, tests))
    ∙ position_first_failing is_true not false false its its refl (λ i h. refl)
