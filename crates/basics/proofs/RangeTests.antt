-- The library's test that a range contains a number is the definitions' `between`.
use Rattle.std.proofs.Common.{rules, ◌≡◌, tests, ℕ, leb, false}
use Rattle.std.specs.Prelude.{ℤ}
use Rattle.std.specs.Ordering.{partial_le}
use Rattle.std.specs.Int.Signed.{le_z}
use Rattle.std.specs.Range.{range_inclusive_contains, range_inclusive_start, range_inclusive_end, range_inclusive_exhausted}
use Rattle.std.specs.contracts.prelude.U32PartialOrd.TheImpl as U32
use Rattle.std.specs.contracts.prelude.I32PartialOrd.TheImpl as I32
use Rattle.basics.specs.Test.{between, betweenℤ}

le_u32 : (a x : ℕ) → partial_le U32.partial_cmp-value.it a x ≡ leb a x
le_u32 a x = search (rules, tests)

pub contains_between : (low high x : ℕ) (range : _) → range_inclusive_start range ≡ low → range_inclusive_end range ≡ high
    → range_inclusive_exhausted range ≡ false → range_inclusive_contains U32.partial_cmp-value.it range x ≡ between low high x
contains_between low high x range starts ends going = rw (starts, ends, going, le_u32 low x, le_u32 x high)

le_i32 : (a x : ℤ) → partial_le I32.partial_cmp-value.it a x ≡ le_z a x
le_i32 a x = search (rules, tests)

-- The same of integers.
pub contains_betweenℤ : (low high x : ℤ) (range : _) → range_inclusive_start range ≡ low → range_inclusive_end range ≡ high
    → range_inclusive_exhausted range ≡ false → range_inclusive_contains I32.partial_cmp-value.it range x ≡ betweenℤ low high x
contains_betweenℤ low high x range starts ends going = rw (starts, ends, going, le_i32 low x, le_i32 x high)
