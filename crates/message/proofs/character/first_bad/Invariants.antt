-- `message::character::first_bad` meets its contract. The loop's invariant: the first bad place from i on is that of all the bytes.
-- Assumes nothing.

use mathlib.Core.Path.{◌≡◌}
use Prim.Native.Nat.{◌+◌}
use lib.ListN.{drop}
use Rattle.message.specs.Character.{first_bad}
use Rattle.message.proofs.character.first_bad.Given as goal

abbrev pub invariant-loop-i : goal.invariant-loop-i
invariant-loop-i l = first_bad (l.start + l.i) (drop l.i l.bytes) ≡ first_bad l.start l.bytes
