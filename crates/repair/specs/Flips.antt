-- Flipped data bits: how many there are; in how many the frames of two words differ; that flips within the limit are repaired (demand 3 says
-- it of two), and that more are not turned into a word as long as flips and limit together are fewer than frames differ in (02, L14 says it
-- of three); that no two words are within a limit; and how many flips a word other than the sent one takes.
use Rattle.std.specs.Prelude.{◌≡◌, ◌↔◌, ℕ, ◌+◌, ◌-◌, ◌^◌, ◌≤◌, ◌<◌, Bool, not, cond, List, eqb, ltb, Result, Ok, Err}
use Rattle.basics.specs.Below.{count_below}
use Rattle.refusal.specs.declared.Refusal.{Refusal}
use Rattle.frame.specs.Symbols.{frame_of, RightSymbols, data_at, received_bits}
use Rattle.distance.specs.Prefixes.{live_count}
use Rattle.repair.specs.Answer.{nearest_with, frame_repaired}
use Rattle.repair.specs.Demand.{Bounds}
use Rattle.repair.specs.declared.Nearest.{Nearest}

-- "A data bit is flipped where the received one differs from that of the sent word's frame."
abbrev pub flipped_at : ℕ → List ℕ → ℕ → Bool
flipped_at word frame place = not (eqb (data_at frame place) (data_at (frame_of word) place))

-- How many are.
unfoldable pub flips : ℕ → List ℕ → ℕ
flips word frame = count_below 162 (flipped_at word frame)

-- The sent word, "with the number of flipped bits as its disagreements", and what else the answer holds. It is said where no other word is
-- within the limit, so that the next "is taken as limit + 1".
unfoldable pub word_given_back : ℕ → List ℕ → ℕ → Nearest
word_given_back word frame limit = nearest_with frame limit word (flips word frame) (limit + 1 - flips word frame)

-- ---- The frames of two words

-- "two different words always differ in at least six data bits of their frames" (02, L14), here with any number in place of six: so many are
-- flipped at least where one word is sent and the frame of another is received.
abbrev pub FramesApart : ℕ → Type 0
FramesApart least = (sent other : ℕ) → sent < 2 ^ 50 → other < 2 ^ 50 → (sent ≡ other → ⊥) → least ≤ flips sent (frame_of other)

-- The least such number: two words' frames differ in exactly so many. It is 28, of the words 0x546C3 and 0: `frames_least` of
-- proofs/FlipAnswers.antt.
pub record FramesLeast (least one another : ℕ) : Type 0 where
  pub apart : FramesApart least
  pub in_50_bits : (one < 2 ^ 50) × (another < 2 ^ 50)
  pub exactly : flips one (frame_of another) ≡ least

-- ---- Flips within the limit

-- Whichever word was sent, whichever of its data bits were flipped, and whatever became of the sync bits: the word is given back, with the
-- number of flipped bits as its disagreements, exactly where the budget is the live count or more.
abbrev pub FlipsRepaired : List ℕ → ℕ → ℕ → Result Nearest Refusal → Type 0
FlipsRepaired frame limit budget answer =
    RightSymbols frame → Bounds limit budget → (word : ℕ) → word < 2 ^ 50 → flips word frame ≤ limit
    → ((answer ≡ Ok (word_given_back word frame limit)) ↔ (live_count (received_bits frame) limit ≤ budget))

-- "Whichever 50-bit word was sent, whichever of its frame's 162 data bits were flipped, two at most, and whatever became of the sync
-- bits, limit 2 with a budget of 16,000 gives that word back, with the number of flipped bits as its disagreements."
abbrev pub TwoFlipsRepaired : List ℕ → ℕ → ℕ → Result Nearest Refusal → Type 0
TwoFlipsRepaired frame limit budget answer =
    limit ≡ 2 → budget ≡ 16_000 → RightSymbols frame → (word : ℕ) → word < 2 ^ 50 → flips word frame ≤ 2
    → answer ≡ Ok (word_given_back word frame 2)

-- The same of four at most: limit 4 with a budget of 17,851 or more, so with the largest, 65,536.
abbrev pub FourFlipsRepaired : List ℕ → ℕ → ℕ → Result Nearest Refusal → Type 0
FourFlipsRepaired frame limit budget answer =
    limit ≡ 4 → 17_851 ≤ budget → Bounds limit budget → RightSymbols frame → (word : ℕ) → word < 2 ^ 50 → flips word frame ≤ 4
    → answer ≡ Ok (word_given_back word frame 4)

-- ---- More flips than the limit

-- "never turned into any word: it is refused 17, or 16 where the live count is above the budget."
unfoldable pub no_word_given : List ℕ → ℕ → ℕ → Result Nearest Refusal
no_word_given frame limit budget =
    cond (ltb budget (live_count (received_bits frame) limit)) (Err Refusal.OverBudget) (Err Refusal.NoneWithinLimit)

-- More flips than the limit, together with it fewer than a number, give no word.
abbrev pub FlipsRefused : ℕ → List ℕ → ℕ → ℕ → Result Nearest Refusal → Type 0
FlipsRefused least frame limit budget answer =
    RightSymbols frame → Bounds limit budget → (word : ℕ) → word < 2 ^ 50 → limit < flips word frame → flips word frame + limit < least
    → answer ≡ no_word_given frame limit budget

-- The law behind L14's sentence: so it is for any number of data bits in which frames differ at least.
abbrev pub FlipsLaw : Type 0
FlipsLaw =
    (least : ℕ) → FramesApart least → (frame : List ℕ) (limit budget : ℕ) → FlipsRefused least frame limit budget (frame_repaired frame limit budget)

-- "a frame with exactly three flipped data bits, at limit 2 and a legal budget, is never turned into any word": whichever word was sent, and
-- whatever became of the sync bits.
abbrev pub ThreeFlipsRefused : List ℕ → ℕ → ℕ → Result Nearest Refusal → Type 0
ThreeFlipsRefused frame limit budget answer =
    limit ≡ 2 → Bounds limit budget → RightSymbols frame → (word : ℕ) → word < 2 ^ 50 → flips word frame ≡ 3
    → answer ≡ no_word_given frame limit budget

-- ---- One word within the limit, if any

-- 18 is never given: not at any limit, not for any symbols.
abbrev pub NeverShared : Result Nearest Refusal → Type 0
NeverShared answer = answer ≡ Err Refusal.SharedFewest → ⊥

-- The margin is always limit + 1 less the disagreements.
abbrev pub MarginLeft : ℕ → Result Nearest Refusal → Type 0
MarginLeft limit answer = (nearest : Nearest) → answer ≡ Ok nearest → nearest.disagreements + nearest.margin ≡ limit + 1

-- ---- A word other than the sent one

-- It is answered, at any limit and budget, only where more data bits were flipped than it has disagreements, and both together are at least
-- as many as frames differ in. With 28, as disagreements are at most the limit, that is at least 28 less the limit: at limit 2 at least 26
-- flips, at limit 12 at least 16.
abbrev pub WrongWordFlips : ℕ → List ℕ → ℕ → ℕ → Result Nearest Refusal → Type 0
WrongWordFlips least frame limit budget answer =
    RightSymbols frame → Bounds limit budget → (nearest : Nearest) → answer ≡ Ok nearest
    → (word : ℕ) → word < 2 ^ 50 → (word ≡ nearest.word → ⊥)
    → (nearest.disagreements < flips word frame) × (least ≤ flips word frame + nearest.disagreements)
