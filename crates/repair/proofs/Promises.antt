-- All that `repair` promises holds of an answer that is the one defined.
use mathlib.Core.Path.{◌≡◌, refl, subst}
use Prim.Native.Nat.{ℕ}
use mathlib.Core.List.{List}
use Rattle.std.specs.Prelude.{Result}
use Rattle.refusal.specs.declared.Refusal.{Refusal}
use Rattle.repair.specs.Answer.{frame_repaired, repair_numbers}
use Rattle.repair.specs.Demand.{AsChecked, AsDemanded}
use Rattle.repair.specs.Flips.{FlipsRepaired, TwoFlipsRepaired, FourFlipsRepaired, FlipsRefused, ThreeFlipsRefused, NeverShared, MarginLeft, WrongWordFlips}
use Rattle.repair.specs.LiveCounts.{CleanRepaired, OneFlipRepaired, NeverOverBudget}
use Rattle.repair.specs.declared.Nearest.{Nearest}
use Rattle.repair.proofs.AnswerLaws.{demanded}
use Rattle.repair.proofs.CheckLaws.{checked}
use Rattle.repair.proofs.FlipLaws.{frames_apart}
use Rattle.repair.proofs.FlipAnswers.{flips_repaired, two_flips_repaired, four_flips_repaired, flips_refused, three_flips_refused, wrong_word_flips, never_shared, margin_limit}
use Rattle.repair.proofs.LiveLaws.{clean_repaired, one_flip_repaired, never_over_budget}

module _ (frame : List ℕ) (limit budget : ℕ) where
  -- Clause by clause.
  abbrev pub Promised : Result Nearest Refusal → Type 0
  Promised result = record {
    answer : result ≡ frame_repaired frame limit budget;
    numbers : repair_numbers result ≡ repair_numbers (frame_repaired frame limit budget);
    checked : AsChecked frame limit budget result;
    demanded : AsDemanded frame limit budget result;
    two_flips : TwoFlipsRepaired frame limit budget result;
    three_flips : ThreeFlipsRefused frame limit budget result;
    wrong_word : WrongWordFlips 28 frame limit budget result;
    clean : CleanRepaired frame limit budget result;
    one_flip : OneFlipRepaired frame limit budget result;
    flips_repaired : FlipsRepaired frame limit budget result;
    four_flips : FourFlipsRepaired frame limit budget result;
    flips_refused : FlipsRefused 28 frame limit budget result;
    never_shared : NeverShared result;
    margin_left : MarginLeft limit result;
    never_over_budget : NeverOverBudget limit budget result;
  }

  all_promised : Promised (frame_repaired frame limit budget)
  all_promised = record {
    answer = refl;
    numbers = refl;
    checked = checked frame limit budget;
    demanded = demanded frame limit budget;
    two_flips = two_flips_repaired frame limit budget;
    three_flips = three_flips_refused frame limit budget;
    wrong_word = wrong_word_flips 28 frames_apart frame limit budget;
    clean = clean_repaired frame limit budget;
    one_flip = one_flip_repaired frame limit budget;
    flips_repaired = flips_repaired frame limit budget;
    four_flips = four_flips_repaired frame limit budget;
    flips_refused = flips_refused 28 frames_apart frame limit budget;
    never_shared = never_shared frame limit budget;
    margin_left = margin_limit frame limit budget;
    never_over_budget = never_over_budget frame limit budget;
  }

  pub promised : (result : Result Nearest Refusal) → frame_repaired frame limit budget ≡ result → Promised result
  promised result e = subst Promised e all_promised
