-- `repair::best::Best::none_found` meets its contract: one above the limit fits, as the limit is small.
-- Assumes nothing.
use mathlib.Core.Path.{refl}
use Rattle.repair.specs.Search.{none_found}
use Rattle.repair.proofs.best.Best.none_found.Goals as goal

pub returns : goal.returns
unfolding none_found
returns c = refl
