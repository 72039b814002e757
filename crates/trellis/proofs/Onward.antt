-- The counts that are kept forwards: digit i says in how many places the state meets each mask moved down by i places, as it will i steps on
-- if zeros follow.
use Prim.Native.Nat.{ℕ, zero, suc, ◌+◌, ◌*◌, ◌/◌, ◌%◌}
use Rattle.convolution.specs.Code.{first_mask, second_mask}
use Rattle.trellis.proofs.Running.{paired, meeting}

-- The first k digits.
unfoldable pub ahead : ℕ → ℕ → ℕ → ℕ → ℕ
ahead zero first second state = 0
ahead (suc k) first second state = meeting first second state + 4_096 * ahead k (first / 2) (second / 2) state

-- What a bit 1 adds to them.
unfoldable pub ahead_response : ℕ → ℕ → ℕ → ℕ
ahead_response zero first second = 0
ahead_response (suc k) first second = paired (first % 2) (second % 2) + 4_096 * ahead_response k (first / 2) (second / 2)

-- A mask without its lowest bit, which the newest bit meets.
abbrev pub older : ℕ → ℕ
older mask = mask / 2

abbrev pub onward_counts : ℕ → ℕ
onward_counts state = ahead 31 (older first_mask) (older second_mask) state

abbrev pub onward_response : ℕ
onward_response = ahead_response 31 (older first_mask) (older second_mask)
