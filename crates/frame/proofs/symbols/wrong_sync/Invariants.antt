-- `frame::symbols::wrong_sync` meets its contract: each turn counts a place.
-- Assumes nothing.

use mathlib.Core.Path.{◌≡◌}
use Prim.Native.Nat.{◌≤◌}
use lib.ListN.{length}
use Rattle.basics.specs.Below.{count_below}
use Rattle.frame.specs.Symbols.{unsynced_at}
use Rattle.frame.proofs.symbols.wrong_sync.Given as goal

abbrev pub invariant-loop-symbol : goal.invariant-loop-symbol
invariant-loop-symbol l =
    (length l.yielded ≤ length l.frame) × ((l.wrong ≤ length l.yielded) × (l.wrong ≡ count_below (length l.yielded) (unsynced_at l.frame)))
