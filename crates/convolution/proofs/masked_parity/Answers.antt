-- `convolution::masked_parity` meets its contract: two folds, and the sum of the eight bits that they leave.
-- Assumes nothing.
use mathlib.Core.Path.{◌≡◌}
use Prim.Native.Nat.{ℕ, ◌*◌, ◌/◌, ◌^◌, ◌<◌}
use native.Mathlib.Nat.{le_of_lt, lt_of_le_of_lt, mul-le-mul}
use native.Mathlib.Omega.{arith}
use lib.Bits.{bit_and, and_le_l, and_le_r}
use lib.Pow.{shl_lt}
use mir.Syntax.{w8, w64}
use mir.Val.{Fits}
use Rattle.convolution.specs.Code.{parity}
use Rattle.convolution.proofs.Folding.{fold, parity_product}
use Rattle.convolution.proofs.masked_parity.Goals as goal

-- A product of two numbers of 32 bits fits 64, whichever bits are summed and whatever the factor.
product-fits : (n bits factor : ℕ) → bits < 2 ^ 32 → factor < 2 ^ 32 → Fits w64 (bit_and n bits * factor)
product-fits n bits factor h k =
    record { fits = lt_of_le_of_lt (mul-le-mul (and_le_r n bits) (le_of_lt k)) (shl_lt 32 32 h) }

-- The highest of 32 bits is 0 or 1.
highest-fits : (n : ℕ) → Fits w8 (bit_and n 0xFFFF_FFFF / 2 ^ 31)
highest-fits n = record { fits = omega (arith, and_le_r n 0xFFFF_FFFF) }

-- The law, with the facts about the code apart: its folds are by two and by one, and these are the bits that it sums and the factor.
parity-found : (mask register folded bits factor : ℕ) → register < 2 ^ 32
    → folded ≡ fold 1 (fold 2 (bit_and register mask))
    → bits ≡ 0x1111_1111
    → factor ≡ 0x8888_8888
    → bit_and (bit_and folded bits * factor) 0xFFFF_FFFF / 2 ^ 31 ≡ parity mask register
unfolding parity
parity-found mask register folded bits factor h e f g =
    rw (e, f, g) (parity_product (bit_and register mask) (lt_of_le_of_lt (and_le_l register mask) h))

pub returns : goal.returns
returns c = search parity-found
