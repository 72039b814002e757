-- `extended::field::Field::is_legal` meets its contract: each test refuses numbers that are no legal field's, and the last tells the rest.
-- Assumes nothing.
use Rattle.std.proofs.Common.{sym, ◌∙◌, get_or, rules}
use lib.IntN.{pos, negsuc}
use mir.Facts.{to_z-of_z}
use mir.Syntax.{w64}
use mir.Val.{SFits}
use Rattle.extended.proofs.FieldLaws.{range_tells, not_lowest, not_step, not_count, last_test}
use Rattle.extended.proofs.field.Field.is_legal.Goals as goal

pub returns-then-not-contains : goal.returns-then-not-contains
returns-then-not-contains c =
    let lowest = get_or c.args.three.now 0 (pos 0) in
    let fits : SFits w64 (get_or c.args.three.now 0 (pos 0)) = search rules in
    let test = range_tells (negsuc 2_147_483_647) (pos 2_147_483_647) lowest _ fits (rw (c.new.ensures.start, c.new.ensures.end, c.new.ensures.exhausted) at c.contains.ensures.value) in
    sym (not_lowest lowest _ _ (sym test ∙ c.if-not-contains.true))

pub returns-then-not-contains-2 : goal.returns-then-not-contains-2
returns-then-not-contains-2 c =
    let step = get_or c.args.three.now 1 (pos 0) in
    let fits : SFits w64 (get_or c.args.three.now 1 (pos 0)) = search rules in
    let test = range_tells (pos 1) (pos 4_294_967_295) step _ fits (rw (c.new-2.ensures.start, c.new-2.ensures.end, c.new-2.ensures.exhausted) at c.contains-2.ensures.value) in
    sym (not_step _ step _ (sym test ∙ c.if-not-contains-2.true))

pub returns-then-not-contains-3 : goal.returns-then-not-contains-3
returns-then-not-contains-3 c =
    let count = get_or c.args.three.now 2 (pos 0) in
    let fits : SFits w64 (get_or c.args.three.now 2 (pos 0)) = search rules in
    let test = range_tells (pos 2) (pos 4_294_967_296) count _ fits (rw (c.new-3.ensures.start, c.new-3.ensures.end, c.new-3.ensures.exhausted) at c.contains-3.ensures.value) in
    sym (not_count _ _ count (sym test ∙ c.if-not-contains-3.true))

pub returns : goal.returns
returns c =
    let lowest = get_or c.args.three.now 0 (pos 0) in
    let step = get_or c.args.three.now 1 (pos 0) in
    let count = get_or c.args.three.now 2 (pos 0) in
    let lowest_fits : SFits w64 (get_or c.args.three.now 0 (pos 0)) = search rules in
    let step_fits : SFits w64 (get_or c.args.three.now 1 (pos 0)) = search rules in
    let count_fits : SFits w64 (get_or c.args.three.now 2 (pos 0)) = search rules in
    let low = range_tells (negsuc 2_147_483_647) (pos 2_147_483_647) lowest _ lowest_fits (rw (c.new.ensures.start, c.new.ensures.end, c.new.ensures.exhausted) at c.contains.ensures.value) in
    let steps = range_tells (pos 1) (pos 4_294_967_295) step _ step_fits (rw (c.new-2.ensures.start, c.new-2.ensures.end, c.new-2.ensures.exhausted) at c.contains-2.ensures.value) in
    let counts = range_tells (pos 2) (pos 4_294_967_296) count _ count_fits (rw (c.new-3.ensures.start, c.new-3.ensures.end, c.new-3.ensures.exhausted) at c.contains-3.ensures.value) in
    rw (to_z-of_z count_fits, to_z-of_z step_fits, c.abs_diff.ensures, to_z-of_z lowest_fits)
    (last_test lowest step count (sym low ∙ c.if-not-contains.false) (sym steps ∙ c.if-not-contains-2.false) (sym counts ∙ c.if-not-contains-3.false))
