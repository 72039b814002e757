-- `interleaver::places::table` meets its contract: one test shows that the table is the places by the published rule, entry by entry; that
-- the indexes are their inverse is `places_indexes`.
-- Assumes nothing.
use mathlib.Core.Path.{refl}
use Rattle.basics.specs.Lists.{same_list}
use Rattle.basics.proofs.ListLaws.{same_list_equal}
use Rattle.interleaver.specs.Places.{reversed_in, reversed, places_from, all_places}
use Rattle.interleaver.proofs.PlaceLaws.{places_indexes}
use Rattle.interleaver.proofs.places.table.Goals as goal

pub returns : goal.returns
unfolding same_list all_places places_from reversed reversed_in
returns c =
    record { answer = same_list_equal _ all_places refl; inverse = places_indexes }
