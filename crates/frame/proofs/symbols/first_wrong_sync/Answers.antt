-- `frame::symbols::first_wrong_sync` meets its contract: it looks for the first place whose sync bit is wrong.
-- Assumes nothing.
use Rattle.std.proofs.Common.{◌∙◌, rules, tests}
use Rattle.std.proofs.lemmas.Iterator.{YieldsList-from_slice, YieldsList-from_zip}
use Rattle.std.proofs.lemmas.Iterator.Consumers.{YieldsList-at}
use Rattle.std.proofs.lemmas.Iterator.Search.{position_from_yields_List}
use Rattle.frame.specs.Symbols.{sync_vector}
use Rattle.frame.proofs.SymbolLaws.{is_unsynced, unsynced_first}
use Rattle.frame.proofs.symbols.first_wrong_sync.Goals as goal

pub returns : goal.returns
returns c =
    let frame = c.args.frame.now in
    let pairs = YieldsList-from_zip {s = c.zip.result} (YieldsList-at c.zip.ensures.first (YieldsList-from_slice frame c.iter.ensures.rest)) (YieldsList-from_slice sync_vector cc) in
    position_from_yields_List is_unsynced c.position.new.self _ c.position.result c.position.ensures.ran pairs (λ x b q k. search (rules, tests))
    ∙ unsynced_first frame c.requires
