-- The symbols of a frame (01, 'Frame' and 'Repair'): sync bits, data bits, the frame of a word, and back from a frame.
use Rattle.std.specs.Prelude.{◌≡◌, ℕ, ◌+◌, ◌*◌, ◌/◌, ◌%◌, ◌≤◌, ◌<◌, Bool, not, List, [], ◌∷◌, eqb, length, get_or}
use Rattle.basics.specs.Below.{count_below}
use Rattle.basics.specs.Lists.{tabulate}
use Rattle.convolution.specs.Code.{coded_bits}
use Rattle.interleaver.specs.Places.{place_of, index_at}

-- "The sync vector is the table in 002; its printed "0.0" near the end is two zeros, and it has 162 entries."
unfoldable pub sync_vector : List ℕ
sync_vector =
    1 ∷ 1 ∷ 0 ∷ 0 ∷ 0 ∷ 0 ∷ 0 ∷ 0 ∷ 1 ∷ 0 ∷ 0 ∷ 0 ∷ 1 ∷ 1 ∷ 1 ∷ 0 ∷ 0 ∷ 0 ∷ 1 ∷ 0 ∷ 0 ∷ 1 ∷ 0 ∷ 1 ∷ 1 ∷ 1 ∷ 1 ∷ 0 ∷ 0 ∷ 0 ∷ 0 ∷ 0 ∷ 0 ∷ 0 ∷ 1 ∷ 0 ∷ 0 ∷ 1 ∷ 0 ∷ 1 ∷ 0 ∷ 0 ∷
    0 ∷ 0 ∷ 0 ∷ 0 ∷ 1 ∷ 0 ∷ 1 ∷ 1 ∷ 0 ∷ 0 ∷ 1 ∷ 1 ∷ 0 ∷ 1 ∷ 0 ∷ 0 ∷ 0 ∷ 1 ∷ 1 ∷ 0 ∷ 1 ∷ 0 ∷ 0 ∷ 0 ∷ 0 ∷ 1 ∷ 1 ∷ 0 ∷ 1 ∷ 0 ∷ 1 ∷ 0 ∷ 1 ∷ 0 ∷ 1 ∷ 0 ∷ 0 ∷ 1 ∷ 0 ∷ 0 ∷ 1 ∷ 0 ∷
    1 ∷ 1 ∷ 0 ∷ 0 ∷ 0 ∷ 1 ∷ 1 ∷ 0 ∷ 1 ∷ 0 ∷ 1 ∷ 0 ∷ 0 ∷ 0 ∷ 1 ∷ 0 ∷ 0 ∷ 0 ∷ 0 ∷ 0 ∷ 1 ∷ 0 ∷ 0 ∷ 1 ∷ 0 ∷ 0 ∷ 1 ∷ 1 ∷ 1 ∷ 0 ∷ 1 ∷ 1 ∷ 0 ∷ 0 ∷ 1 ∷ 1 ∷ 0 ∷ 1 ∷ 0 ∷ 0 ∷ 0 ∷ 1 ∷
    1 ∷ 1 ∷ 0 ∷ 0 ∷ 0 ∷ 0 ∷ 0 ∷ 1 ∷ 0 ∷ 1 ∷ 0 ∷ 0 ∷ 1 ∷ 1 ∷ 0 ∷ 0 ∷ 0 ∷ 0 ∷ 0 ∷ 0 ∷ 0 ∷ 1 ∷ 1 ∷ 0 ∷ 1 ∷ 0 ∷ 1 ∷ 1 ∷ 0 ∷ 0 ∷ 0 ∷ 1 ∷ 1 ∷ 0 ∷ 0 ∷ 0 ∷
    []

-- The sync bit of a place.
unfoldable pub sync_at : ℕ → ℕ
sync_at place = get_or sync_vector place 0

-- The data bit of each place: the coded bit that goes there.
unfoldable pub interleaved : List ℕ → List ℕ
interleaved coded = tabulate 162 (λ place. get_or coded (index_at place) 0)

-- "Symbol n is sync n plus twice data n."
unfoldable pub with_sync : List ℕ → List ℕ
with_sync bits = tabulate 162 (λ place. sync_at place + 2 * get_or bits place 0)

-- The frame of a word.
unfoldable pub frame_of : ℕ → List ℕ
frame_of word = with_sync (interleaved (coded_bits word))

-- A frame has 162 symbols of 0 to 3.
pub record RightSymbols (frame : List ℕ) : Type 0 where
  pub right_length : length frame ≡ 162
  pub symbols_to_3 : (place : ℕ) → place < 162 → get_or frame place 0 ≤ 3

-- 162 bits: a frame's data bits, by place or in coded order. Only private functions require it: no promise has to be believed through it.
pub record DataBits (bits : List ℕ) : Type 0 where
  pub right_length : length bits ≡ 162
  pub are_bits : (i : ℕ) → i < 162 → get_or bits i 0 < 2

-- The data bit at a place of a frame: "symbol divided by 2, rounded down".
abbrev pub data_at : List ℕ → ℕ → ℕ
data_at frame place = get_or frame place 0 / 2

-- Back from a frame: the data bits, "put back in S order".
unfoldable pub received_bits : List ℕ → List ℕ
received_bits frame = tabulate 162 (λ index. data_at frame (place_of index))

-- A symbol's sync bit, "symbol modulo 2", is that of its place.
abbrev pub synced : ℕ → ℕ → Bool
synced place symbol = eqb (symbol % 2) (sync_at place)

-- The sync bit at a place of a frame is wrong.
abbrev pub unsynced_at : List ℕ → ℕ → Bool
unsynced_at frame place = not (synced place (get_or frame place 0))

-- "the number of the 162 symbols whose sync bit (symbol modulo 2) is wrong"
unfoldable pub wrong_sync_in : List ℕ → ℕ
wrong_sync_in frame = count_below 162 (unsynced_at frame)
