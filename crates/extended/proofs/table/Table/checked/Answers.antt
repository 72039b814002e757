-- `extended::table::Table::checked` meets its contract: each turn tests the next field, and stops where one is illegal or the product too large.
-- Assumes nothing.
use Rattle.std.proofs.Common.{◌≡◌, sym, ap, ◌∙◌, true, false, Bool, true≢false, cond, ◌&&◌, leb, ltb, eqb, ℕ, ◌*◌, ◌/◌, ◌^◌, ◌<◌, ◌≤◌, List, [], map, length, get_or, is_le, Less, Equal, Greater, arith}
use native.Mathlib.Nat.{mul-le-mul}
use lib.IntN.{ℤ}
use mir.Syntax.{w64}
use mir.Val.{Fits}
use Rattle.std.specs.Simd.{first_chunks}
use Rattle.std.proofs.lemmas.List.{length-map}
use Rattle.std.proofs.lemmas.Bool.Decides.{nat_tests}
use Rattle.basics.specs.Test.{between}
use Rattle.extended.specs.Fields.{field_in, fields_of, no_field, legal_field, legal_table}
use Rattle.extended.specs.declared.field.Field.{Field}
use Rattle.extended.proofs.FieldLaws.{legal, count_small}
use Rattle.extended.proofs.TableLaws.{fields_in, field_at, few_or_many, not_legal_at, testing_starts, testing_turn, too_large, testing_ends}
use Rattle.extended.proofs.table.Table.checked.Goals as goal

-- What `contains` tells of how many fields there are.
le_by_order : (a b : ℕ) → is_le (cond (ltb a b) Less (cond (eqb a b) Equal Greater)) ≡ leb a b
le_by_order a b = grind (arith, nat_tests)

range_tells : (threes : List (List ℤ)) (r : Bool)
    → r ≡ (is_le (cond (ltb 1 (length threes)) Less (cond (eqb 1 (length threes)) Equal Greater))
    && is_le (cond (ltb (length threes) 29) Less (cond (eqb (length threes) 29) Equal Greater)))
    → r ≡ between 1 29 (length (map field_in threes))
range_tells threes r e =
    rw (length-map threes field_in) (rw (le_by_order 1 (length threes), le_by_order (length threes) 29) at e)

module _ (numbers : List ℤ) (threes : List (List ℤ)) (e : threes ≡ first_chunks 3 (length numbers / 3) numbers) where
  same_fields : map field_in threes ≡ fields_of numbers
  same_fields = rw e (fields_in numbers)

  refused : legal_table (map field_in threes) ≡ false → legal_table (fields_of numbers) ≡ true → ⊥
  refused f t = true≢false (sym (rw (← same_fields) at t) ∙ f)

-- The field of three numbers at a place.
module _ (threes : List (List ℤ)) (i : ℕ) (h : i < length threes) where
  within : i < length (map field_in threes)
  within = omega (arith, length-map threes field_in)

  tested : (r b : Bool) → r ≡ legal_field (field_in (get_or threes i [])) → r ≡ b → legal_field (get_or (map field_in threes) i no_field) ≡ b
  tested r b e k = rw (field_at threes i h) (sym e ∙ k)

  count_is : (f : Field) → f ≡ field_in (get_or threes i []) → f.count ≡ (get_or (map field_in threes) i no_field).count
  count_is f e = ap (λ (g : Field). g.count) (e ∙ sym (field_at threes i h))

-- A product and a legal field's count are small.
product_fits : (product : ℕ) (f : Field) → product ≤ 608_612_940 → legal_field f ≡ true → Fits w64 (product * f.count)
product_fits product f h e =
    let most : product * f.count ≤ 608_612_940 * (2 ^ 32) = mul-le-mul h (count_small f (legal f e)) in
    record { fits = omega arith }

pub returns-then-not-contains : goal.returns-then-not-contains
returns-then-not-contains c =
    let threes = c.as_chunks.result.0.now in
    let range = range_tells threes _ (rw (c.new.ensures.start, c.new.ensures.end, c.new.ensures.exhausted) at c.contains.ensures.value) in
    refused c.args.numbers.now threes c.as_chunks.ensures.front (few_or_many (map field_in threes) (sym range ∙ c.if-not-contains.true))

pub loop-three-init : goal.loop-three-init
loop-three-init c =
    let threes = c.as_chunks.result.0.now in
    let range = range_tells threes _ (rw (c.new.ensures.start, c.new.ensures.end, c.new.ensures.exhausted) at c.contains.ensures.value) in
    testing_starts (map field_in threes) (sym range ∙ c.if-not-contains.false)

pub returns-then-not-is_legal : goal.returns-then-not-is_legal
returns-then-not-is_legal c =
    let threes = c.as_chunks.result.0.now in
    let i = c.loop-three.three-index in
    let h = c.loop-three-test.true in
    refused c.args.numbers.now threes c.as_chunks.ensures.front
    (not_legal_at (map field_in threes) i (within threes i h) (tested threes i h _ false c.is_legal.ensures c.if-not-is_legal.true))

pub of-product-requires : goal.of-product-requires
of-product-requires c = sym c.is_legal.ensures ∙ c.if-not-is_legal.false

pub overflow_mul-product : goal.overflow_mul-product
overflow_mul-product c =
    product_fits c.loop-three.product c.of-product.result c.loop-three.invariant.small
    (rw c.of-product.ensures (sym c.is_legal.ensures ∙ c.if-not-is_legal.false))

pub returns-then-product-gt-LARGEST_PRODUCT : goal.returns-then-product-gt-LARGEST_PRODUCT
returns-then-product-gt-LARGEST_PRODUCT c =
    let threes = c.as_chunks.result.0.now in
    let i = c.loop-three.three-index in
    let h = c.loop-three-test.true in
    refused c.args.numbers.now threes c.as_chunks.ensures.front
    (too_large (map field_in threes) c.loop-three.product i c.loop-three.invariant (within threes i h) (tested threes i h _ true c.is_legal.ensures c.if-not-is_legal.false)
    (rw (count_is threes i h c.of-product.result c.of-product.ensures) at c.if-product-gt-LARGEST_PRODUCT.true))

pub loop-three-preserved : goal.loop-three-preserved
loop-three-preserved c =
    let threes = c.as_chunks.result.0.now in
    let i = c.loop-three.three-index in
    let h = c.loop-three-test.true in
    let count = count_is threes i h c.of-product.result c.of-product.ensures in
    rw count
    (testing_turn (map field_in threes) c.loop-three.product i c.loop-three.invariant (within threes i h) (tested threes i h _ true c.is_legal.ensures c.if-not-is_legal.false)
    (rw count at c.if-product-gt-LARGEST_PRODUCT.false))

pub invariant_of-result : goal.invariant_of-result
invariant_of-result c =
    let threes = c.as_chunks.result.0.now in
    testing_ends (map field_in threes) c.loop-three.product c.loop-three.three-index c.loop-three.invariant (omega (arith, length-map threes field_in))

pub returns : goal.returns
returns c =
    let threes = c.as_chunks.result.0.now in
    let same = same_fields c.args.numbers.now threes c.as_chunks.ensures.front in
    let its = testing_ends (map field_in threes) c.loop-three.product c.loop-three.three-index c.loop-three.invariant (omega (arith, length-map threes field_in)) in
    (rw same at its, same)
