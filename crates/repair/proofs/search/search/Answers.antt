-- `repair::search::search` meets its contract: each turn is a move of the walk (Walk.antt). Both loops have one measure: a live prefix that is
-- counted leaves less of the budget, and between two of these branches are passed and prefixes get shorter.
-- Assumes nothing.
use mathlib.Core.Path.{◌≡◌, refl, ap}
use Prim.Native.Nat.{ℕ, ◌+◌, ◌-◌, ◌*◌, ◌≤◌, ◌<◌}
use native.Mathlib.Omega.{arith}
use lib.ListN.{get_or, replicate, length-replicate}
use Rattle.distance.specs.Steps.{branches_of, zero_cost, branch_cost}
use Rattle.distance.proofs.StepLaws.{branches_most, last_branch_below, branch_cost_most}
use Rattle.repair.proofs.Walk.{Walking, walk_starts, walk_over, walk_down, walk_word, walk_past, walk_up, walk_ends, cost_most, number_in, up_most, up_distance}
use Rattle.repair.proofs.search.search.Goals as goal
use Rattle.repair.proofs.search.search.Goals.{then-longer-limit+else-budget-live+else-depth-lt80, else-longer-limit}

-- A shorter prefix leaves less to do.
falls : (live depth last branch head : ℕ) → 1 ≤ depth → live + depth * 3 + (2 - branch) ≤ head → live + (depth - 1) * 3 + (2 - (last + 1)) < head
falls live depth last branch head longer h = omega arith

pub depths-init : goal.depths-init
depths-init c =
    rw (c.root_costs-costs.ensures, c.none_found-best.ensures)
    (walk_starts (replicate 81 0) (zero_cost c.args.received.now 0 0) c.requires.data_bits (length-replicate {A = ℕ} 81 0) refl)

pub branch_cost-requires : goal.branch_cost-requires
branch_cost-requires c = cost_most c.loop-branch.invariant.0

pub overflow_add-longer : goal.overflow_add-longer
overflow_add-longer c =
    let now = c.loop-branch.invariant.0 in
    let cost : c.branch_cost.result ≤ 2 = rw c.branch_cost.ensures (branch_cost_most _ _ (cost_most now)) in
    omega (arith, cost, now.near, c.requires.limit_bound)

pub child-number-requires : goal.child-number-requires
child-number-requires c =
    let few : c.loop-branch.branch < branches_of c.loop-branch.depth = rw c.branches.ensures at c.loop-branch-test.true in
    record { number_bound = number_in c.loop-branch.invariant.0; branch_bound = omega (arith, few, branches_most c.loop-branch.depth) }

pub depths-preserved-then-depth-lt80 : goal.depths-preserved-then-depth-lt80
depths-preserved-then-depth-lt80 c =
    let few : c.loop-branch.branch < branches_of c.loop-branch.depth = rw c.branches.ensures at c.loop-branch-test.true in
    let longer : c.loop-branch.disagreements + c.branch_cost.result ≡ c.loop-branch.disagreements + branch_cost (get_or c.loop-branch.costs c.loop-branch.depth 0) c.loop-branch.branch =
    ap (λ (n : ℕ). c.loop-branch.disagreements + n) c.branch_cost.ensures in
    let is-child = c.child-number.ensures in
    rw is-child
    (walk_down c.loop-branch.invariant.0 few _ longer c.zero_cost.result
    (omega (arith, c.if-longer-limit.true)) (omega (arith, c.if-budget-live.false))
    (omega (arith, c.if-depth-lt80.true)) (rw is-child at c.zero_cost.ensures))

pub loop-branch-smaller : goal.loop-branch-smaller
loop-branch-smaller c =
    let few : c.loop-branch.branch < branches_of c.loop-branch.depth = rw c.branches.ensures at c.loop-branch-test.true in
    let grows : c.loop-branch.live ≤ c.if-longer-limit.live =
    elim c.if-longer-limit.branch [
      | then-longer-limit+else-budget-live+else-depth-lt80 w ↦ omega (arith, w.live-is)
      | else-longer-limit w ↦ omega (arith, w.live-is)
    ] in
    omega (arith, grows, few, branches_most c.loop-branch.depth)

-- Past a word within the limit, or past a branch that isn't live.
pub loop-branch-preserved : goal.loop-branch-preserved
loop-branch-preserved c =
    let few : c.loop-branch.branch < branches_of c.loop-branch.depth = rw c.branches.ensures at c.loop-branch-test.true in
    let longer : c.loop-branch.disagreements + c.branch_cost.result ≡ c.loop-branch.disagreements + branch_cost (get_or c.loop-branch.costs c.loop-branch.depth 0) c.loop-branch.branch =
    ap (λ (n : ℕ). c.loop-branch.disagreements + n) c.branch_cost.ensures in
    let now = c.loop-branch.invariant.0 in
    let grows : c.loop-branch.live ≤ c.if-longer-limit.live =
    elim c.if-longer-limit.branch [
      | then-longer-limit+else-budget-live+else-depth-lt80 w ↦ omega (arith, w.live-is)
      | else-longer-limit w ↦ omega (arith, w.live-is)
    ] in
    let passed : Walking c.args.received.now c.args.limit c.args.budget c.loop-branch.costs c.if-longer-limit.best c.if-longer-limit.live c.loop-branch.depth c.loop-branch.number c.loop-branch.disagreements (c.loop-branch.branch + 1) =
    elim c.if-longer-limit.branch [
      | then-longer-limit+else-budget-live+else-depth-lt80 w ↦
          rw (w.best-is, w.live-is, w.with_word-best.ensures)
          (walk_word now few _ longer (omega (arith, w.if-longer-limit.true)) (omega (arith, w.if-budget-live.false)) (omega (arith, w.if-depth-lt80.false)))
      | else-longer-limit w ↦ rw (w.best-is, w.live-is) (walk_past now few _ longer (omega (arith, w.if-longer-limit.false)))
    ] in
    (passed, omega (arith, c.loop-branch.invariant.1, grows, few, branches_most c.loop-branch.depth))

pub branch_cost-disagreements-requires : goal.branch_cost-disagreements-requires
branch_cost-disagreements-requires c =
    let d = c.loop-branch.depth - 1 in
    let above : c.loop-branch.depth ≡ d + 1 = omega (arith, c.if-depth-eq0.false) in
    let done : branches_of c.loop-branch.depth ≤ c.loop-branch.branch = rw c.branches.ensures at c.loop-branch-test.false in
    up_most c.loop-branch.invariant.0 d above done

pub overflow_sub-disagreements : goal.overflow_sub-disagreements
overflow_sub-disagreements c =
    let d = c.loop-branch.depth - 1 in
    let above : c.loop-branch.depth ≡ d + 1 = omega (arith, c.if-depth-eq0.false) in
    let done : branches_of c.loop-branch.depth ≤ c.loop-branch.branch = rw c.branches.ensures at c.loop-branch-test.false in
    rw (c.branch_cost-disagreements.ensures, c.last_branch-branch.ensures)
    (omega (arith, up_distance c.loop-branch.invariant.0 d above done))

pub overflow_add-branch-in-depths : goal.overflow_add-branch-in-depths
overflow_add-branch-in-depths c =
    let last : c.last_branch-branch.result < 2 =
    omega (arith, c.last_branch-branch.ensures, last_branch_below (c.loop-branch.depth - 1) c.loop-branch.number, branches_most (c.loop-branch.depth - 1)) in
    omega (arith, last)

pub depths-preserved : goal.depths-preserved
depths-preserved c =
    let d = c.loop-branch.depth - 1 in
    let above : c.loop-branch.depth ≡ d + 1 = omega (arith, c.if-depth-eq0.false) in
    let done : branches_of c.loop-branch.depth ≤ c.loop-branch.branch = rw c.branches.ensures at c.loop-branch-test.false in
    rw (c.parent-number.ensures, c.branch_cost-disagreements.ensures, c.last_branch-branch.ensures)
    (walk_up c.loop-branch.invariant.0 d above done)

pub returns-then-budget-live : goal.returns-then-budget-live
returns-then-budget-live c =
    let now = c.loop-branch.invariant.0 in
    let few : c.loop-branch.branch < branches_of c.loop-branch.depth = rw c.branches.ensures at c.loop-branch-test.true in
    let longer : c.loop-branch.disagreements + c.branch_cost.result ≡ c.loop-branch.disagreements + branch_cost (get_or c.loop-branch.costs c.loop-branch.depth 0) c.loop-branch.branch =
    ap (λ (n : ℕ). c.loop-branch.disagreements + n) c.branch_cost.ensures in
    record {
      stops = omega (arith, now.live_within);
      when_over_budget = λ over. walk_over now few _ longer (omega (arith, c.if-longer-limit.true)) (omega (arith, c.if-budget-live.true));
      counted = λ within. absurd (omega (arith, c.if-budget-live.true));
      best_of_all = λ within. absurd (omega (arith, c.if-budget-live.true));
    }

pub returns-then-depth-eq0 : goal.returns-then-depth-eq0
returns-then-depth-eq0 c =
    let done : branches_of c.loop-branch.depth ≤ c.loop-branch.branch = rw c.branches.ensures at c.loop-branch-test.false in
    walk_ends c.loop-branch.invariant.0 (omega (arith, c.if-depth-eq0.true)) done
