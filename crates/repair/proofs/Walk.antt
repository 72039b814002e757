-- The search of repair: what holds whenever it stands at a prefix and is to take a branch of it, and how each of its moves keeps that. The
-- moves know of the cost of a branch only that it is at most 2 and takes a prefix's disagreements, here the distance, to those of the longer one.
use mathlib.Core.Path.{◌≡◌, sym, ap, ap₂, ◌∙◌, subst}
use Prim.Native.Nat.{ℕ, ◌+◌, ◌-◌, ◌*◌, ◌/◌, ◌^◌, ◌≤◌, ◌<◌}
use native.Mathlib.Nat.{zero-mul, zero-div}
use native.Mathlib.Omega.{arith}
use mathlib.Core.List.{List}
use lib.ListN.{length, get_or, set, length-set}
use lib.Seq.{get_or-set_same, get_or-set_other}
use Rattle.basics.proofs.Choice.{equal_or_not}
use Rattle.distance.specs.Prefixes.{prefix_bits, prefixes_of, disagreements, word_disagreements, live_count}
use Rattle.distance.specs.Steps.{branches_of, child_of, parent_of, last_branch, zero_cost, branch_cost}
use Rattle.distance.proofs.Bits.{AllBits, bits_each}
use Rattle.distance.proofs.PrefixLaws.{prefixes_root, prefixes_positive, prefixes_all}
use Rattle.distance.proofs.Spans.{span, span_tail, span_within, span_root, share_fewer, within_span, first_of_span, child_span, next_word, next_none, next_more, next_all, next_prefix, next_child, next_below, parent_span, parent_begins, word_at}
use Rattle.distance.proofs.Passed.{passed_live, live_enter, live_whole, live_leave, words_not_live, live_pass, live_starts, live_ends, live_most}
use Rattle.distance.proofs.StepLaws.{branches_later, child_below, parent_below, last_branch_below, child_parent, prefix_empty, zero_cost_most, disagreements_branch}
use Rattle.frame.specs.Symbols.{DataBits}
use Rattle.repair.specs.Search.{none_found, best_with, BestBelow, SearchFound}
use Rattle.repair.specs.declared.best.Best.{Best}
use Rattle.repair.proofs.BestLaws.{best_starts, best_passes, best_takes}

-- Standing at a prefix, with its branches before `branch` passed.
pub record Walking (received : List ℕ) (limit budget : ℕ) (costs : List ℕ) (best : Best) (live depth number distance branch : ℕ) : Type 0 where
  pub long : length received ≡ 162
  pub are_bits : AllBits received
  pub depth_most : depth ≤ 80
  pub number_below : number < prefixes_of depth
  pub branch_most : branch ≤ branches_of depth
  pub distance_is : distance ≡ disagreements received (prefix_bits depth number)
  pub near : distance ≤ limit
  pub live_is : live ≡ passed_live received limit depth (number * span depth) (next_word depth number branch)
  pub live_within : live ≤ budget
  pub best_is : BestBelow received limit (next_word depth number branch) best
  -- For each prefix on the path from the root, what a 0 after it costs.
  pub room : length costs ≡ 81
  pub costs_are : (j : ℕ) → j ≤ depth → get_or costs j 0 ≡ zero_cost received j (number * span depth / span j)

module _ {received : List ℕ} {limit budget : ℕ} where
  -- ---- Start

  pub walk_starts : (costs : List ℕ) (cost : ℕ) → DataBits received → length costs ≡ 81 → cost ≡ zero_cost received 0 0
      → Walking received limit budget (set costs 0 cost) (none_found limit) 0 0 0 0 0
  walk_starts costs cost bits_received room e =
      let none : next_word 0 0 0 ≡ 0 = omega (arith, zero-mul (span 0), zero-mul (span 1)) in
      let zero_first : 0 * span 0 ≡ 0 = zero-mul (span 0) in
      record {
        long = bits_received.right_length;
        are_bits = bits_each received (λ i h. bits_received.are_bits i (omega (arith, bits_received.right_length)));
        depth_most = omega arith;
        number_below = prefixes_positive 0;
        branch_most = omega arith;
        distance_is = sym (prefix_empty received);
        near = omega arith;
        live_is = rw (none, zero_first) (sym (live_starts received limit));
        live_within = omega arith;
        best_is = rw none (best_starts received limit);
        room = length-set costs 0 cost ∙ room;
        costs_are =
            λ j h.
            let at_0 : j ≡ 0 = omega arith in
            rw (at_0, zero_first, zero-div (span 0)) (get_or-set_same costs 0 cost 0 (omega arith) ∙ e);
      }

  module _ {costs : List ℕ} {best : Best} {live depth number distance branch : ℕ}
      (w : Walking received limit budget costs best live depth number distance branch) where
    abbrev first : ℕ
    first = number * span depth

    abbrev next : ℕ
    next = next_word depth number branch

    -- ---- A branch

    cost_is : get_or costs depth 0 ≡ zero_cost received depth number
    cost_is = w.costs_are depth (omega arith) ∙ ap (zero_cost received depth) (first_of_span depth number)

    pub cost_most : get_or costs depth 0 ≤ 2
    cost_most = rw cost_is (zero_cost_most received depth number)

    pub number_in : number < 2 ^ 50
    number_in = omega (arith, w.number_below, prefixes_all depth)

    module _ (h : branch < branches_of depth) where
      abbrev child : ℕ
      child = child_of depth number branch

      branch_distance : distance + branch_cost (get_or costs depth 0) branch ≡ disagreements received (prefix_bits (depth + 1) child)
      branch_distance =
          let step = disagreements_branch received depth number branch w.long w.are_bits (omega (arith, w.depth_most)) w.number_below h in
          rw (cost_is, w.distance_is) (sym step)

      with_first : next / span depth ≡ first / span depth
      with_first = next_prefix depth number branch h ∙ sym (first_of_span depth number)

      next_in : next < 2 ^ 50
      next_in = omega (arith, next_below depth number branch h, span_within depth number w.number_below)

      -- The longer prefix has the disagreements that the search adds up.
      module _ (longer : ℕ) (e : longer ≡ distance + branch_cost (get_or costs depth 0) branch) where
        entered : longer ≤ limit → live + 1 ≡ passed_live received limit (depth + 1) next next
        entered near =
            let same : disagreements received (prefix_bits (depth + 1) (next / span (depth + 1))) ≡ longer =
            rw (next_child depth number branch h) (sym (e ∙ branch_distance)) in
            rw (live_enter received limit depth first next (omega (arith, w.depth_most)) with_first (omega arith)) (ap (λ (n : ℕ). n + 1) w.live_is)

        -- More live prefixes than the budget.
        pub walk_over : longer ≤ limit → budget < live + 1 → budget < live_count received limit
        walk_over near over =
            omega (arith, entered near, live_most received limit (depth + 1) next next next_in (omega (arith, next_in)))

        -- ---- Down a live branch

        pub walk_down : (cost : ℕ) → longer ≤ limit → live + 1 ≤ budget → depth < 80 → cost ≡ zero_cost received (depth + 1) child
            → Walking received limit budget (set costs (depth + 1) cost) best (live + 1) (depth + 1) child longer 0
        walk_down cost near within before is_cost =
            let stands : child * span (depth + 1) ≡ next = child_span depth number branch h in
            let none : next_word (depth + 1) child 0 ≡ next = next_none (depth + 1) child ∙ stands in
            record {
              long = w.long;
              are_bits = w.are_bits;
              depth_most = omega arith;
              number_below = child_below depth number branch w.number_below h;
              branch_most = omega arith;
              distance_is = e ∙ branch_distance;
              near = near;
              live_is = rw (none, stands) (entered near);
              live_within = within;
              best_is = rw none w.best_is;
              room = length-set costs (depth + 1) cost ∙ w.room;
              costs_are =
                  λ j k.
                  equal_or_not j (depth + 1)
                  (λ here.
                  rw (here, first_of_span (depth + 1) child) (get_or-set_same costs (depth + 1) cost 0 (omega (arith, w.room)) ∙ is_cost))
                  (λ earlier.
                  rw (stands, share_fewer j depth next first (omega arith) with_first)
                  (get_or-set_other costs (depth + 1) j cost 0 (λ same. absurd (omega arith)) ∙ w.costs_are j (omega arith)));
            }

        -- ---- Past a branch

        -- What a branch that is passed doesn't change.
        passing : (more : Best) (count : ℕ) → count ≡ passed_live received limit depth first (next + span (depth + 1)) → count ≤ budget
            → BestBelow received limit (next + span (depth + 1)) more
            → Walking received limit budget costs more count depth number distance (branch + 1)
        passing more count counted within all =
            record {
              long = w.long;
              are_bits = w.are_bits;
              depth_most = w.depth_most;
              number_below = w.number_below;
              branch_most = omega arith;
              distance_is = w.distance_is;
              near = w.near;
              live_is = rw (next_more depth number branch) counted;
              live_within = within;
              best_is = rw (next_more depth number branch) all;
              room = w.room;
              costs_are = w.costs_are;
            }

        -- Past a live word.
        pub walk_word : longer ≤ limit → live + 1 ≤ budget → 80 ≤ depth
            → Walking received limit budget costs (best_with best number longer) (live + 1) depth number distance (branch + 1)
        walk_word near within last =
            let at_80 : depth ≡ 80 = omega (arith, w.depth_most) in
            let zero_branch : branch ≡ 0 = omega (arith, branches_later depth (omega arith)) in
            let word : next ≡ number = rw (zero_branch, next_none depth number, span_tail depth (omega arith)) (omega arith) in
            let its : word_disagreements received next ≡ longer =
            sym (word_at received next)
            ∙ ap (λ (k : ℕ). disagreements received (prefix_bits (k + 1) (next / span (k + 1)))) (sym at_80)
            ∙ rw (next_child depth number branch h) (sym (e ∙ branch_distance)) in
            let counted : passed_live received limit (depth + 1) next next ≡ passed_live received limit depth first (next + span (depth + 1)) =
            rw at_80 (live_whole received limit (next_word 80 number branch) (next_word 80 number branch) (next_word 80 number branch + span 81)
            ∙ live_leave received limit 80 (next_word 80 number branch) (number * span 80) (rw at_80 at with_first)) in
            let one_more : next + span (depth + 1) ≡ next + 1 = ap (λ (n : ℕ). next + n) (span_tail (depth + 1) (omega arith)) in
            passing (best_with best number longer) (live + 1) (entered near ∙ counted) within
            (rw one_more
            (subst (λ (n : ℕ). BestBelow received limit (next + 1) (best_with best n longer)) word
            (best_takes received limit next longer best its near w.best_is)))

        -- Past a branch that isn't live.
        pub walk_past : limit < longer → Walking received limit budget costs best live depth number distance (branch + 1)
        walk_past far =
            let stands : child * span (depth + 1) ≡ next = child_span depth number branch h in
            let child_far : limit < disagreements received (prefix_bits (depth + 1) child) = omega (arith, e ∙ branch_distance) in
            passing best live (w.live_is ∙ sym (rw stands at (live_pass received limit depth first child child_far))) w.live_within
            (best_passes received limit next (next + span (depth + 1)) best (omega arith)
            (λ word from to. omega (arith, all_far stands child_far word from to, w.best_is.next_most)) w.best_is)
          where
            -- No word with a prefix that isn't live is within the limit.
            all_far : child * span (depth + 1) ≡ next → limit < disagreements received (prefix_bits (depth + 1) child)
                → (word : ℕ) → next ≤ word → word < next + span (depth + 1) → limit < word_disagreements received word
            all_far stands child_far word from to =
                let rest : child * span (depth + 1) + (word - next) ≡ word = omega arith in
                let begins : word / span (depth + 1) ≡ child = rw rest at (within_span (depth + 1) child (word - next) (omega arith)) in
                rw (← word_at received word)
                (words_not_live received limit (depth + 1) child word 81 begins child_far (omega (arith, w.depth_most)) (omega arith))

    -- ---- Back up

    module _ (d : ℕ) (e : depth ≡ d + 1) (done : branches_of depth ≤ branch) where
      abbrev parent : ℕ
      parent = parent_of d number

      abbrev last : ℕ
      last = last_branch d number

      -- The words with the prefix begin with the one that it is longer than, and all of them are passed.
      begins : first / span d ≡ parent
      begins = rw e (parent_begins d number)

      all_passed : next ≡ first + span depth
      all_passed =
          let at_end : branch ≡ branches_of depth = omega (arith, w.branch_most) in
          rw at_end (next_all depth number)

      parent_in : parent < prefixes_of d
      parent_in = parent_below d number (rw e at w.number_below)

      up_cost : get_or costs d 0 ≡ zero_cost received d parent
      up_cost = w.costs_are d (omega arith) ∙ ap (zero_cost received d) begins

      pub up_distance : distance ≡ disagreements received (prefix_bits d parent) + branch_cost (get_or costs d 0) last
      up_distance =
          let step = disagreements_branch received d parent last w.long w.are_bits (omega (arith, w.depth_most)) parent_in (last_branch_below d number) in
          rw up_cost
          (w.distance_is ∙ ap₂ (λ (k n : ℕ). disagreements received (prefix_bits k n)) e (sym (child_parent d number)) ∙ step)

      pub up_most : get_or costs d 0 ≤ 2
      up_most = rw up_cost (zero_cost_most received d parent)

      pub walk_up : Walking received limit budget costs best live d parent (distance - branch_cost (get_or costs d 0) last) (last + 1)
      walk_up =
          let next_same : next_word d parent (last + 1) ≡ next = parent_span d number ∙ sym (all_passed ∙ ap (λ (k : ℕ). number * span k + span k) e) in
          let with_parent : number * span (d + 1) / span d ≡ parent * span d / span d = parent_begins d number ∙ sym (first_of_span d parent) in
          record {
            long = w.long;
            are_bits = w.are_bits;
            depth_most = omega (arith, w.depth_most);
            number_below = parent_in;
            branch_most = omega (arith, last_branch_below d number);
            distance_is = omega (arith, up_distance);
            near = omega (arith, w.near);
            live_is =
                rw (parent_span d number)
                (w.live_is ∙ rw (all_passed, e) (live_leave received limit d (number * span (d + 1)) (parent * span d) with_parent));
            live_within = w.live_within;
            best_is = rw next_same w.best_is;
            room = w.room;
            costs_are =
                λ j h.
                rw (← share_fewer j d (number * span (d + 1)) (parent * span d) h with_parent)
                (rw e at (w.costs_are j (omega arith)));
          }

    -- ---- End

    pub walk_ends : depth ≡ 0 → branches_of depth ≤ branch → SearchFound received limit budget (record { live = live; best = best })
    walk_ends e done =
        let at_end : branch ≡ branches_of depth = omega (arith, w.branch_most) in
        let root : number ≡ 0 = omega (arith, rw (e, prefixes_root) at w.number_below) in
        let all : next ≡ 2 ^ 50 = rw (at_end, next_all depth number, root, e, zero-mul (span 0), span_root) in
        record {
          stops = omega (arith, w.live_within);
          when_over_budget = λ over. absurd (omega (arith, w.live_within));
          counted = λ h. w.live_is ∙ rw (all, root, e, zero-mul (span 0)) (live_ends received limit);
          best_of_all = λ h. rw all at w.best_is;
        }
