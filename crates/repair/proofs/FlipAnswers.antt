-- What follows of the least distance of frames: of flips within the limit, of more, and of words other than the sent one.
use mathlib.Core.Path.{◌≡◌, refl, sym, ◌∙◌}
use mathlib.Core.Logic.{⊎_elim}
use Prim.Native.Nat.{ℕ, ◌+◌, ◌-◌, ◌^◌, ◌≤◌, ◌<◌}
use native.Mathlib.Omega.{arith}
use mathlib.Core.List.{List}
use borrow.Author.Tests.{lt-ltb, le-ltb}
use Rattle.basics.proofs.Choice.{below_or_not, equal_or_not}
use Rattle.frame.specs.Symbols.{frame_of, RightSymbols, received_bits}
use Rattle.frame.proofs.SymbolLaws.{length_received_bits}
use Rattle.distance.specs.Prefixes.{word_disagreements, live_count}
use Rattle.distance.specs.Nearest.{OnlyNearest, OtherWithin, NoOtherWithin, IsMargin}
use Rattle.distance.proofs.NearestLaws.{margin_to}
use Rattle.distance.proofs.PrefixLaws.{disagreements_together}
use Rattle.live_counts.specs.CleanCounts.{clean_count}
use Rattle.live_counts.proofs.Clean.{any_most}
use Rattle.least_distance.proofs.Apart.{least_distance}
use Rattle.repair.specs.Answer.{nearest_with, frame_repaired}
use Rattle.repair.specs.Demand.{Bounds, IsNearest, NoneWithin, Shared}
use Rattle.repair.specs.Flips.{flips, word_given_back, FramesApart, FramesLeast, FlipsRepaired, TwoFlipsRepaired, FourFlipsRepaired, no_word_given, FlipsLaw, ThreeFlipsRefused, NeverShared, MarginLeft, WrongWordFlips}
use Rattle.repair.specs.declared.Nearest.{Nearest}
use Rattle.repair.proofs.AnswerLaws.{repaired_searched, shared_of, demanded}
use Rattle.repair.proofs.CheckLaws.{right_searched}
use Rattle.repair.proofs.FlipLaws.{flips_disagreements, flips_frame_of, frames_apart}

pub frames_least : FramesLeast 28 0x546C3 0
frames_least =
    record {
      apart = frames_apart;
      in_50_bits = least_distance.in_50_bits;
      exactly = flips_frame_of 0x546C3 0 ∙ least_distance.exactly;
    }

-- Where the frames of two words differ, a received frame differs from one of them.
flips_together : (v w : ℕ) (frame : List ℕ) → flips v (frame_of w) ≤ flips v frame + flips w frame
flips_together v w frame =
    omega (
      arith,
      flips_frame_of v w,
      disagreements_together (received_bits frame) v w (length_received_bits frame),
      flips_disagreements v frame,
      flips_disagreements w frame,
    )

-- So no two words are within a limit of a received frame.
pub one_within : (v w limit : ℕ) (frame : List ℕ) → limit ≤ 12 → v < 2 ^ 50 → w < 2 ^ 50 → (v ≡ w → ⊥)
    → word_disagreements (received_bits frame) v ≤ limit → limit < word_disagreements (received_bits frame) w
one_within v w limit frame to_12 h k other near =
    omega (arith, frames_apart v w h k other, flips_together v w frame, flips_disagreements v frame, flips_disagreements w frame)

-- ---- Flips within the limit

module _ (word : ℕ) (frame : List ℕ) (limit : ℕ) (h : word < 2 ^ 50) (few : flips word frame ≤ limit) (to_12 : limit ≤ 12) where
  same : flips word frame ≡ word_disagreements (received_bits frame) word
  same = flips_disagreements word frame

  -- Any other word differs from the sent one in so many data bits that it isn't within the limit of what was received.
  others_far : (other : ℕ) → other < 2 ^ 50 → (other ≡ word → ⊥) → limit < word_disagreements (received_bits frame) other
  others_far other k different = one_within word other limit frame to_12 h k (λ e. different (sym e)) (omega (arith, same))

  others_more : OnlyNearest (received_bits frame) word
  others_more = (h, λ other k different. omega (arith, others_far other k different, same))

  margin_left : IsMargin (received_bits frame) limit word (limit + 1 - flips word frame)
  margin_left =
      rw same
      (margin_to (received_bits frame) limit word (limit + 1) (omega (arith, same)) (omega arith)
      (λ other k different. omega (arith, others_far other k different))
      (λ within. absurd (omega arith)))

  given_back_is : IsNearest frame limit (word_given_back word frame limit)
  unfolding word_given_back nearest_with
  given_back_is =
      record {
        only_nearest = others_more;
        its_disagreements = same;
        within_limit = few;
        its_live_count = refl;
        its_wrong_sync = refl;
        its_margin = margin_left;
      }

-- The sent word is given back exactly where the budget is enough.
pub flips_repaired : (frame : List ℕ) (limit budget : ℕ) → FlipsRepaired frame limit budget (frame_repaired frame limit budget)
flips_repaired frame limit budget right bounds word h few =
    let told = (demanded frame limit budget right bounds).answered (word_given_back word frame limit) in
    ((λ e. (told.0 e).0), λ enough. told.1 (enough, given_back_is word frame limit h few bounds.limit_to_12))

-- Two at most, at limit 2: 569 is enough.
pub two_flips_repaired : (frame : List ℕ) (limit budget : ℕ) → TwoFlipsRepaired frame limit budget (frame_repaired frame limit budget)
unfolding clean_count
two_flips_repaired frame limit budget two enough right word h few =
    let bounds : Bounds 2 16_000 = record { limit_to_12 = omega arith; budget_from_1 = omega arith; budget_to_65536 = omega arith } in
    rw (two, enough)
    ((flips_repaired frame 2 16_000 right bounds word h few).1
    (omega (arith, any_most (received_bits frame) 2 (length_received_bits frame) (omega arith))))

-- Four at most, at limit 4.
pub four_flips_repaired : (frame : List ℕ) (limit budget : ℕ) → FourFlipsRepaired frame limit budget (frame_repaired frame limit budget)
unfolding clean_count
four_flips_repaired frame limit budget four enough bounds right word h few =
    let within : Bounds 4 budget = rw four at bounds in
    rw four
    ((flips_repaired frame 4 budget right within word h (omega (arith, few))).1
    (omega (arith, any_most (received_bits frame) 4 (length_received_bits frame) (omega arith))))

-- ---- More flips than the limit, and other words

module _ (frame : List ℕ) (limit budget : ℕ) (right : RightSymbols frame) (bounds : Bounds limit budget) where
  abbrev live : ℕ
  live = live_count (received_bits frame) limit

  none_refused : NoneWithin (received_bits frame) limit → frame_repaired frame limit budget ≡ no_word_given frame limit budget
  unfolding no_word_given
  none_refused none =
      let told = demanded frame limit budget right bounds in
      below_or_not budget live
      (λ over. rw (lt-ltb budget live over) (told.out_of_budget.1 over))
      (λ within. rw (le-ltb budget live within) (told.none_within.1 (within, none)))

-- The sent word has as many disagreements as there are flips; any other has what these leave of the least distance, or more.
pub flips_refused : FlipsLaw
flips_refused least apart frame limit budget right bounds word h more fewer =
    none_refused frame limit budget right bounds
    (λ other k.
    equal_or_not other word
    (λ same. rw same (omega (arith, flips_disagreements word frame)))
    (λ different. omega (arith, apart other word k h different, flips_together other word frame, flips_disagreements other frame)))

-- The law's case 28, 3, 2.
pub three_flips_refused : (frame : List ℕ) (limit budget : ℕ) → ThreeFlipsRefused frame limit budget (frame_repaired frame limit budget)
three_flips_refused frame limit budget two bounds right word h three =
    flips_refused 28 frames_apart frame limit budget right bounds word h (omega arith) (omega arith)

module _ (least : ℕ) (apart : FramesApart least) (frame : List ℕ) (limit budget : ℕ) where
  pub wrong_word_flips : WrongWordFlips least frame limit budget (frame_repaired frame limit budget)
  wrong_word_flips right bounds nearest e word h different =
      let (within, is) = ((demanded frame limit budget right bounds).answered nearest).0 e in
      let (known, only) = is.only_nearest in
      let answered = nearest.word in
      let nearer : nearest.disagreements < flips word frame =
      omega (arith, only word h different, is.its_disagreements, flips_disagreements word frame) in (
        nearer,
        omega (
          arith,
          nearer,
          apart word answered h known different,
          flips_together word answered frame,
          flips_disagreements answered frame,
          is.its_disagreements,
        ),
      )

-- ---- One word within the limit, if any

module _ (frame : List ℕ) (limit budget : ℕ) where
  -- Two that share the fewest disagreements would both be within the limit.
  none_shared : Bounds limit budget → Shared (received_bits frame) limit → ⊥
  none_shared bounds words =
      let (one_known, one-least) = words.one_fewest in
      let (another-known, another-least) = words.another_fewest in
      omega (
        arith,
        one_within words.one words.another limit frame bounds.limit_to_12 one_known another-known words.different words.within_limit,
        another-least words.one one_known,
        words.within_limit,
      )

  pub never_shared : NeverShared (frame_repaired frame limit budget)
  never_shared e =
      let (right, bounds) = right_searched frame limit budget (rw e (omega arith)) in
      none_shared bounds (shared_of frame limit budget (sym (repaired_searched frame limit budget right bounds) ∙ e)).1

  -- The next nearest word is never within the limit.
  margin_of : (nearest : Nearest) → Bounds limit budget → IsNearest frame limit nearest → nearest.disagreements + nearest.margin ≡ limit + 1
  margin_of nearest bounds is = ⊎_elim within beyond is.its_margin.exactly
    where
      within : OtherWithin (received_bits frame) limit nearest.word nearest.margin → nearest.disagreements + nearest.margin ≡ limit + 1
      within next =
          absurd
          (omega (
            arith,
            one_within nearest.word next.other limit frame bounds.limit_to_12 is.only_nearest.0 next.in_50_bits
                (λ e. next.different (sym e))
                (omega (arith, is.its_disagreements, is.within_limit)),
            next.within_limit,
          ))

      beyond : NoOtherWithin (received_bits frame) limit nearest.word nearest.margin → nearest.disagreements + nearest.margin ≡ limit + 1
      beyond none = rw is.its_disagreements none.next_after_limit

  pub margin_limit : MarginLeft limit (frame_repaired frame limit budget)
  margin_limit nearest e =
      let (right, bounds) = right_searched frame limit budget (rw e tt) in
      omega (arith, margin_of nearest bounds (((demanded frame limit budget right bounds).answered nearest).0 e).1)
