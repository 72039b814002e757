-- Laws of symbols: a frame's sync and data bits, its coded bits back again, and the count of wrong sync bits.
use mathlib.Core.Path.{◌≡◌, refl, sym, ap, ◌∙◌}
use mathlib.Core.Logic.{◌↔◌}
use Prim.Native.Nat.{ℕ, ◌+◌, ◌*◌, ◌/◌, ◌%◌, ◌^◌, ◌≤◌, ◌<◌}
use native.Mathlib.Omega.{arith}
use mathlib.Core.Bool.{Bool, not}
use mathlib.Core.List.{List}
use lib.Dec.{ltb, eqb}
use lib.ListN.{length, get_or}
use lib.Seq.{ext_get_or}
use borrow.Author.Tests.{ltb-true, leb-true, eqb-true, le-leb, eq-eqb}
use Rattle.std.proofs.Common.{None}
use Rattle.std.specs.List.{zip, position}
use Rattle.std.proofs.lemmas.Slice.Zip.{length-zip, get_or-zip}
use Rattle.basics.specs.Below.{count_below}
use Rattle.basics.specs.Lists.{some_below}
use Rattle.basics.proofs.BelowLaws.{count_none, count_one}
use Rattle.basics.proofs.Choice.{by_test}
use Rattle.basics.proofs.SearchLaws.{position_first_failing, some_below_none}
use Rattle.basics.proofs.Tables.{every_at}
use Rattle.basics.proofs.ListLaws.{length_tabulate, get_d_tabulate, by_rule, passes_at, passes_each}
use Rattle.convolution.specs.Code.{coded_bits}
use Rattle.convolution.specs.Decoding.{decoded_word}
use Rattle.convolution.proofs.CodeLaws.{length_coded_bits, coded_bits_below}
use Rattle.convolution.proofs.DecodingLaws.{decode_encode}
use Rattle.interleaver.specs.Places.{place_of, index_at}
use Rattle.interleaver.proofs.PlaceLaws.{place_of_below, index_at_below, index_at_place_of, place_of_index_at}
use Rattle.frame.specs.Symbols.{sync_vector, sync_at, interleaved, with_sync, frame_of, RightSymbols, DataBits, received_bits, synced, unsynced_at, wrong_sync_in}
use Rattle.frame.specs.Answer.{is_symbol, first_large, first_wrong_sync}
use Rattle.frame.specs.RoundTrip.{RightForm}

-- ---- Symbols

-- "it has 162 entries"
pub length_sync : length sync_vector ≡ 162
unfolding sync_vector
length_sync = refl

-- What is read of a copy of the synchronization vector is the place's sync bit.
pub sync_read : {table : List ℕ} (place : ℕ) → table ≡ sync_vector → get_or table place 0 ≡ sync_at place
unfolding sync_at
sync_read place same = ap (λ (t : List ℕ). get_or t place 0) same

pub sync_below : (place : ℕ) → sync_at place < 2
unfolding sync_at sync_vector
sync_below place = ltb-true _ _ (every_at (λ s. ltb s 2) sync_vector 0 refl refl place)

-- ---- The data bits of a word's frame

length_interleaved : (coded : List ℕ) → length (interleaved coded) ≡ 162
unfolding interleaved
length_interleaved coded = length_tabulate 162 (λ place. get_or coded (index_at place) 0)

get_d_interleaved : (coded : List ℕ) (place : ℕ) → place < 162 → get_or (interleaved coded) place 0 ≡ get_or coded (index_at place) 0
unfolding interleaved
get_d_interleaved coded place h = get_d_tabulate 162 (λ place. get_or coded (index_at place) 0) place h

pub interleaved_bits : (word : ℕ) → DataBits (interleaved (coded_bits word))
interleaved_bits word =
    record {
      right_length = length_interleaved (coded_bits word);
      are_bits = λ place h. rw (get_d_interleaved (coded_bits word) place h) (coded_bits_below word (index_at place));
    }

-- ---- The frame of a word

pub length_with_sync : (bits : List ℕ) → length (with_sync bits) ≡ 162
unfolding with_sync
length_with_sync bits = length_tabulate 162 (λ place. sync_at place + 2 * get_or bits place 0)

pub get_d_with_sync : (bits : List ℕ) (place : ℕ) → place < 162 → get_or (with_sync bits) place 0 ≡ sync_at place + 2 * get_or bits place 0
unfolding with_sync
get_d_with_sync bits place h = get_d_tabulate 162 (λ place. sync_at place + 2 * get_or bits place 0) place h

pub length_frame_of : (word : ℕ) → length (frame_of word) ≡ 162
unfolding frame_of
length_frame_of word = length_with_sync (interleaved (coded_bits word))

module _ (word place : ℕ) (h : place < 162) where
  get_d_frame_of : get_or (frame_of word) place 0 ≡ sync_at place + 2 * get_or (coded_bits word) (index_at place) 0
  unfolding frame_of
  get_d_frame_of = rw (get_d_with_sync (interleaved (coded_bits word)) place h, get_d_interleaved (coded_bits word) place h)

  symbol_to_3 : get_or (frame_of word) place 0 ≤ 3
  symbol_to_3 = omega (arith, get_d_frame_of, sync_below place, coded_bits_below word (index_at place))

  symbol_sync : get_or (frame_of word) place 0 % 2 ≡ sync_at place
  symbol_sync = omega (arith, get_d_frame_of, sync_below place)

  symbol_data : get_or (frame_of word) place 0 / 2 ≡ get_or (coded_bits word) (index_at place) 0
  symbol_data = omega (arith, get_d_frame_of, sync_below place)

pub frame_right_form : (word : ℕ) → RightForm (frame_of word)
frame_right_form word =
    record {
      right_symbols = record { right_length = length_frame_of word; symbols_to_3 = symbol_to_3 word };
      right_sync = symbol_sync word;
    }

-- ---- Back to the coded bits

pub length_received_bits : (frame : List ℕ) → length (received_bits frame) ≡ 162
unfolding received_bits
length_received_bits frame = length_tabulate 162 (λ index. get_or frame (place_of index) 0 / 2)

pub get_d_received_bits : (frame : List ℕ) (index : ℕ) → index < 162 → get_or (received_bits frame) index 0 ≡ get_or frame (place_of index) 0 / 2
unfolding received_bits
get_d_received_bits frame index h = get_d_tabulate 162 (λ index. get_or frame (place_of index) 0 / 2) index h

-- What is received of a word's frame is its coded bits.
pub received_frame_of : (word : ℕ) → received_bits (frame_of word) ≡ coded_bits word
unfolding received_bits
received_frame_of word =
    sym
    (by_rule 162 (λ index. get_or (frame_of word) (place_of index) 0 / 2) (coded_bits word) (length_coded_bits word)
    (λ index h.
    rw (symbol_data word (place_of index) (place_of_below index h), index_at_place_of index h)))

-- So the word is read back, and different words have different frames.
pub decoded_frame_of : (word : ℕ) → word < 2 ^ 50 → decoded_word (received_bits (frame_of word)) ≡ word
decoded_frame_of word h = ap decoded_word (received_frame_of word) ∙ decode_encode word h

pub frame_of_injective : (v w : ℕ) → v < 2 ^ 50 → w < 2 ^ 50 → frame_of v ≡ frame_of w → v ≡ w
frame_of_injective v w h k e =
    sym (decoded_frame_of v h) ∙ ap (λ (f : List ℕ). decoded_word (received_bits f)) e ∙ decoded_frame_of w k

-- A frame of the right form is a word's where its data bits are the word's coded bits.
pub frame_by_data : (word : ℕ) (frame : List ℕ) → RightForm frame → coded_bits word ≡ received_bits frame → frame_of word ≡ frame
frame_by_data word frame form e =
    ext_get_or 0 (frame_of word) frame (length_frame_of word ∙ sym form.right_symbols.right_length)
    (λ place h.
    let within : place < 162 = omega (arith, length_frame_of word) in
    let index : index_at place < 162 = index_at_below place within in
    let its_data : get_or (coded_bits word) (index_at place) 0 ≡ get_or frame place 0 / 2 =
    ap (λ (l : List ℕ). get_or l (index_at place) 0) e
    ∙ get_d_received_bits frame (index_at place) index
    ∙ ap (λ (p : ℕ). get_or frame p 0 / 2) (place_of_index_at place within) in
    let whole : sync_at place + 2 * get_or (coded_bits word) (index_at place) 0 ≡ get_or frame place 0 = omega (arith, form.right_sync place within) in
    get_d_frame_of word place within ∙ whole)

-- ---- The right form, by the first place that hasn't it

module _ (frame : List ℕ) where
  pub symbols_of_test : length frame ≡ 162 → 162 ≤ first_large frame → RightSymbols frame
  unfolding first_large
  symbols_of_test e large =
      record {
        right_length = e;
        symbols_to_3 = λ place h. leb-true _ _ (passes_at is_symbol 0 frame (rw e large) place (omega arith));
      }

  pub form_of_tests : length frame ≡ 162 → 162 ≤ first_large frame → 162 ≤ first_wrong_sync frame → RightForm frame
  unfolding first_wrong_sync
  form_of_tests e large wrong =
      record {
        right_symbols = symbols_of_test e large;
        right_sync =
            λ place h. eqb-true _ _ (passes_at synced 0 frame (rw e wrong) place (omega arith));
      }

  -- So it is where the searches for a place that hasn't it find none.
  pub symbols_of_search : length frame ≡ 162 → some_below (length frame) (first_large frame) ≡ None → RightSymbols frame
  symbols_of_search e large = symbols_of_test e (omega (arith, some_below_none _ _ large))

  pub form_of_searches : length frame ≡ 162 → some_below (length frame) (first_large frame) ≡ None
      → some_below (length frame) (first_wrong_sync frame) ≡ None → RightForm frame
  form_of_searches e large wrong =
      form_of_tests e (omega (arith, some_below_none _ _ large)) (omega (arith, some_below_none _ _ wrong))

  pub none_large : RightSymbols frame → first_large frame ≡ 162
  unfolding first_large
  none_large right =
      passes_each is_symbol 0 frame (λ place h. le-leb _ _ (right.symbols_to_3 place (omega (arith, right.right_length)))) ∙ right.right_length

  pub none_wrong : RightForm frame → first_wrong_sync frame ≡ 162
  unfolding first_wrong_sync
  none_wrong form =
      let long = form.right_symbols.right_length in
      passes_each synced 0 frame (λ place h. eq-eqb _ _ (form.right_sync place (omega arith))) ∙ long

-- ---- Wrong sync bits

-- None is counted exactly where every sync bit is right.
pub no_wrong_sync : (frame : List ℕ) → (wrong_sync_in frame ≡ 0) ↔ ((place : ℕ) → place < 162 → get_or frame place 0 % 2 ≡ sync_at place)
unfolding wrong_sync_in
no_wrong_sync frame = (right, λ all. count_none 162 (unsynced_at frame) (λ place h. rw (eq-eqb _ _ (all place h))))
  where
    right : count_below 162 (unsynced_at frame) ≡ 0 → (place : ℕ) → place < 162 → get_or frame place 0 % 2 ≡ sync_at place
    right none place h =
        by_test (eqb (get_or frame place 0 % 2) (sync_at place))
        (λ same. eqb-true _ _ same)
        (λ other. absurd (omega (arith, count_one 162 (unsynced_at frame) place h (rw other))))

-- ---- A frame's symbols with the sync bits beside them, as a `zip` gives them

abbrev pub beside_sync : List ℕ → List (ℕ × ℕ)
beside_sync frame = zip frame sync_vector

-- A symbol's sync bit is another than the one beside it.
abbrev pub is_unsynced : ℕ × ℕ → Bool
is_unsynced pair = not (eqb (pair.0 % 2) pair.1)

module _ (frame : List ℕ) (short : length frame ≤ 162) where
  length_beside_sync : length (beside_sync frame) ≡ length frame
  length_beside_sync = length-zip frame sync_vector ∙ omega (arith, length_sync)

  unsynced_beside : (place : ℕ) → place < length frame → is_unsynced (get_or (beside_sync frame) place (0, 0)) ≡ unsynced_at frame place
  unfolding sync_at
  unsynced_beside place h = rw (get_or-zip frame sync_vector place (0, 0) h (omega (arith, length_sync)))

  pub unsynced_first : position is_unsynced (beside_sync frame) ≡ some_below (length frame) (first_wrong_sync frame)
  unfolding first_wrong_sync
  unsynced_first = position_first_failing synced is_unsynced 0 (0, 0) frame (beside_sync frame) length_beside_sync unsynced_beside
