-- Flipped data bits: counted in frame order they are the sent word's disagreements in S order, and the frames of two words differ in 28 data
-- bits or more.
use mathlib.Core.Path.{◌≡◌, sym, ap, ap₂, ◌∙◌}
use Prim.Native.Nat.{ℕ, ◌<◌}
use native.Mathlib.Omega.{arith}
use mathlib.Core.Bool.{not}
use mathlib.Core.List.{List}
use lib.Dec.{eqb}
use lib.ListN.{get_or}
use Rattle.basics.proofs.BelowLaws.{count_same, count_reordered}
use Rattle.convolution.specs.Code.{coded_bits}
use Rattle.convolution.proofs.CodeLaws.{length_coded_bits}
use Rattle.interleaver.specs.Places.{place_of, index_at}
use Rattle.interleaver.proofs.PlaceLaws.{place_of_below, index_at_below, index_at_place_of, place_of_index_at}
use Rattle.frame.specs.Symbols.{frame_of, data_at, received_bits}
use Rattle.frame.proofs.SymbolLaws.{length_received_bits, get_d_received_bits, received_frame_of}
use Rattle.distance.specs.Prefixes.{differences, word_disagreements}
use Rattle.distance.proofs.Bits.{differences_sym, differences_counted}
use Rattle.distance.proofs.PrefixLaws.{disagreements_of_word}
use Rattle.least_distance.proofs.Apart.{least_distance}
use Rattle.repair.specs.Flips.{flipped_at, flips, FramesApart}

module _ (word : ℕ) (frame : List ℕ) where
  abbrev received : List ℕ
  received = received_bits frame

  -- At the place of a coded bit stand the received one and the sent one.
  pub received_there : (index : ℕ) → index < 162 → get_or received index 0 ≡ data_at frame (place_of index)
  received_there index h = get_d_received_bits frame index h

  pub sent_there : (index : ℕ) → index < 162 → get_or (coded_bits word) index 0 ≡ data_at (frame_of word) (place_of index)
  sent_there index h = ap (λ (bits : List ℕ). get_or bits index 0) (sym (received_frame_of word)) ∙ get_d_received_bits (frame_of word) index h

  pub flips_disagreements : flips word frame ≡ word_disagreements received word
  unfolding flips
  flips_disagreements =
      sym
      (disagreements_of_word received word
      ∙ differences_sym (coded_bits word) received
      ∙ differences_counted 162 received (coded_bits word) (length_received_bits frame) (length_coded_bits word)
      ∙ count_same 162 (λ i. not (eqb (get_or received i 0) (get_or (coded_bits word) i 0))) (λ i. flipped_at word frame (place_of i))
      (λ i h. ap₂ (λ (a b : ℕ). not (eqb a b)) (received_there i h) (sent_there i h))
      ∙ count_reordered 162 place_of index_at place_of_below index_at_place_of index_at_below place_of_index_at (flipped_at word frame))

-- ---- Two words

-- The data bits in which the frames of two words differ are the coded bits in which the words do.
pub flips_frame_of : (v w : ℕ) → flips v (frame_of w) ≡ differences (coded_bits v) (coded_bits w)
flips_frame_of v w =
    flips_disagreements v (frame_of w)
    ∙ ap (λ (bits : List ℕ). word_disagreements bits v) (received_frame_of w)
    ∙ disagreements_of_word (coded_bits w) v

pub frames_apart : FramesApart 28
frames_apart v w h k other = omega (arith, flips_frame_of v w, least_distance.apart v w h k other)
