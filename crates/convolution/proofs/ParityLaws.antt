-- Parity is linear: under one mask, the parity of an exclusive or is the sum modulo 2 of both parities.
use mathlib.Core.Path.{◌≡◌, refl, ◌∙◌}
use Prim.Native.Nat.{ℕ, zero, suc, ◌+◌, ◌/◌, ◌%◌, ◌<◌, min}
use native.Mathlib.Nat.{mod-lt}
use native.Mathlib.Omega.{arith}
use lib.Arith.{bin_ind}
use lib.Bits.{bit_and, bit_xor, differ, xor_step, xor_shr, and_zero_r}
use lib.Count.{ones}
use Rattle.convolution.specs.Code.{parity}
use Rattle.convolution.proofs.CodeLaws.{ones_and}

-- ---- One bit

pub differ_small : (x y : ℕ) → x < 2 → y < 2 → differ x y ≡ (x + y) % 2
differ_small zero y h k = omega arith
differ_small (suc zero) zero h k = refl
differ_small (suc zero) (suc zero) h k = refl
differ_small (suc zero) (suc (suc y)) h k = absurd (omega arith)
differ_small (suc (suc x)) y h k = absurd (omega arith)

-- One bit of a sum under one bit of a mask.
min_sum : (x y m : ℕ) → x < 2 → y < 2 → m < 2 → min (differ x y) m % 2 ≡ (min x m + min y m) % 2
min_sum zero y m h k l = omega arith
min_sum (suc zero) zero m h k l = omega arith
min_sum (suc zero) (suc zero) m h k l = omega arith
min_sum (suc zero) (suc (suc y)) m h k l = absurd (omega arith)
min_sum (suc (suc x)) y m h k l = absurd (omega arith)

xor_half : (a b : ℕ) → bit_xor a b / 2 ≡ bit_xor (a / 2) (b / 2)
xor_half a b = xor_shr a b 1

pub xor_odd : (a b : ℕ) → bit_xor a b % 2 ≡ differ (a % 2) (b % 2)
xor_odd a b =
    let rest = bit_xor (a / 2) (b / 2) in
    let lowest = differ (a % 2) (b % 2) in
    let small : lowest < 2 = omega (arith, differ_small (a % 2) (b % 2) (mod-lt a (omega arith)) (mod-lt b (omega arith))) in
    rw (xor_step a b) (omega arith)

-- ---- All bits

-- The parities of parts whose own parities add up.
parities : (d x y r s t : ℕ) → d % 2 ≡ (x + y) % 2 → r % 2 ≡ (s + t) % 2 → (d + r) % 2 ≡ (x + s + (y + t)) % 2
parities d x y r s t e f = omega arith

pub ones_sum : (mask a b : ℕ) → ones (bit_and (bit_xor a b) mask) % 2 ≡ (ones (bit_and a mask) + ones (bit_and b mask)) % 2
unfolding ones
ones_sum =
    bin_ind (λ mask. (a b : ℕ) → ones (bit_and (bit_xor a b) mask) % 2 ≡ (ones (bit_and a mask) + ones (bit_and b mask)) % 2)
    (λ a b. rw (and_zero_r (bit_xor a b), and_zero_r a, and_zero_r b))
    (λ mask rest a b.
    rw (ones_and (bit_xor a b) mask, ones_and a mask, ones_and b mask, xor_half a b, xor_odd a b)
    (parities (min (differ (a % 2) (b % 2)) (mask % 2)) (min (a % 2) (mask % 2)) (min (b % 2) (mask % 2))
    (ones (bit_and (bit_xor (a / 2) (b / 2)) (mask / 2))) (ones (bit_and (a / 2) (mask / 2))) (ones (bit_and (b / 2) (mask / 2)))
    (min_sum (a % 2) (b % 2) (mask % 2) (mod-lt a (omega arith)) (mod-lt b (omega arith)) (mod-lt mask (omega arith)))
    (rest (a / 2) (b / 2))))

pub parity_sum : (mask a b : ℕ) → parity mask (bit_xor a b) ≡ (parity mask a + parity mask b) % 2
unfolding parity
parity_sum mask a b = ones_sum mask a b ∙ omega arith
