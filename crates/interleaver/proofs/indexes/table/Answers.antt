-- `interleaver::indexes::table` meets its contract: one test shows that the table is the indexes by the published rule, entry by entry; that
-- they are the inverse of the places is `places_indexes`.
-- Assumes nothing.
use mathlib.Core.Path.{refl}
use Rattle.basics.specs.Lists.{tabulate, first_failing, index_in, same_list}
use Rattle.basics.proofs.ListLaws.{same_list_equal}
use Rattle.interleaver.specs.Places.{reversed_in, reversed, places_from, all_places, index_at, all_indexes}
use Rattle.interleaver.proofs.PlaceLaws.{places_indexes}
use Rattle.interleaver.proofs.indexes.table.Goals as goal

pub returns : goal.returns
unfolding same_list all_indexes tabulate index_at index_in first_failing all_places places_from reversed reversed_in
returns c =
    record { answer = same_list_equal _ all_indexes refl; inverse = places_indexes }
