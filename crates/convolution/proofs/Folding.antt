-- The parity of a register without counting its ones: two folds by exclusive or leave one bit of each field of four, and a product adds
-- these bits up.
use mathlib.Core.Path.{◌≡◌, refl, sym, ap, ◌∙◌}
use Prim.Native.Nat.{ℕ, zero, suc, ◌+◌, ◌-◌, ◌*◌, ◌/◌, ◌%◌, ◌^◌, ◌≤◌, ◌<◌}
use native.Mathlib.Nat.{mod-lt, mod-eq_of_lt, add_comm, mul_assoc, mul-add-div_right}
use native.Mathlib.Omega.{arith}
use lib.Bits.{bit_and, bit_xor, xor_shr, and_block, and_mask}
use lib.Count.{ones, ones_cat}
use lib.Pow.{pow_pos, pow-add, split, high, low, field, shr-shr, mod-pow-add}
use Rattle.convolution.proofs.ParityLaws.{ones_sum}

-- ---- Folds

-- The bits from k on folded onto those below.
abbrev pub fold : ℕ → ℕ → ℕ
fold k y = bit_xor y (y / 2 ^ k)

-- Over the width: the upper k of k + k bits folded onto the lower k leave the parity as it was.
parity_fold : (k y : ℕ) → ones (y % 2 ^ (k + k)) % 2 ≡ ones (fold k y % 2 ^ k) % 2
parity_fold k y =
    let lower = y % 2 ^ k in
    let upper = y / 2 ^ k % 2 ^ k in
    let sum = rw (and_mask (fold k y) k, and_mask y k, and_mask (y / 2 ^ k) k) at (ones_sum (2 ^ k - 1) y (y / 2 ^ k)) in
    rw (mod-pow-add y k k, ones_cat k upper lower (mod-lt y (pow_pos k))) (omega (arith, sum))

-- A fold and a shift may be exchanged.
fold_shr : (k j y : ℕ) → fold k y / 2 ^ j ≡ fold k (y / 2 ^ j)
fold_shr k j y =
    let either : y / 2 ^ k / 2 ^ j ≡ y / 2 ^ j / 2 ^ k = rw (shr-shr y k j, shr-shr y j k, add_comm k j) in
    rw (xor_shr y (y / 2 ^ k) j, either)

-- ---- Fields of four bits

ones_bit : (n : ℕ) → n < 2 → ones n ≡ n
unfolding ones
ones_bit zero h = refl
ones_bit (suc zero) h = refl
ones_bit (suc (suc n)) h = absurd (omega arith)

-- Two folds leave the parity of a field in its lowest bit,
fold_lowest : (y : ℕ) → fold 1 (fold 2 y) % 2 ≡ ones (y % 2 ^ 4) % 2
fold_lowest y =
    let lowest = fold 1 (fold 2 y) % 2 in
    let small : lowest < 2 = mod-lt (fold 1 (fold 2 y)) (omega arith) in
    omega (arith, parity_fold 2 y, parity_fold 1 (fold 2 y), ones_bit lowest small)

-- and do the same to the fields above it.
fold_above : (y : ℕ) → fold 1 (fold 2 y) / 2 ^ 4 ≡ fold 1 (fold 2 (y / 2 ^ 4))
fold_above y = rw (fold_shr 1 4 (fold 2 y), fold_shr 2 4 y)

-- The number whose n lowest fields are 1.
unfoldable field_ones : ℕ → ℕ
field_ones zero = 0
field_ones (suc n) = field_ones n * 2 ^ 4 + 1

-- The sum of a number's n lowest fields.
unfoldable total : ℕ → ℕ → ℕ
total zero z = 0
total (suc n) z = z % 2 ^ 4 + total n (z / 2 ^ 4)

-- The lowest bits of the fields: that of the first, then those of the fields above.
field_ones_first : (n v : ℕ) → bit_and v (field_ones (suc n)) ≡ bit_and (v / 2 ^ 4) (field_ones n) * 2 ^ 4 + v % 2
unfolding field_ones
field_ones_first n v =
    let bit : bit_and (v % 2 ^ 4) 1 ≡ v % 2 = and_mask (v % 2 ^ 4) 1 ∙ omega arith in
    ap (λ (x : ℕ). bit_and x (field_ones (suc n))) (sym (split v 4))
    ∙ and_block 4 (v / 2 ^ 4) (field_ones n) (v % 2 ^ 4) 1 (mod-lt v (omega arith)) (omega arith)
    ∙ rw bit

total_first : (n v : ℕ) → total (suc n) (bit_and v (field_ones (suc n))) ≡ v % 2 + total n (bit_and (v / 2 ^ 4) (field_ones n))
unfolding total
total_first n v =
    let above = bit_and (v / 2 ^ 4) (field_ones n) in
    let small : v % 2 < 2 ^ 4 = omega arith in
    rw (field_ones_first n v, low above 4 small, high above 4 small)

total_below : (n v : ℕ) → total n (bit_and v (field_ones n)) ≤ n
unfolding total
total_below zero v = omega arith
total_below (suc n) v = omega (arith, total_first n v, total_below n (v / 2 ^ 4))

-- So the bits that two folds leave sum up to the parity of all n fields.
total_parity : (n y : ℕ) → total n (bit_and (fold 1 (fold 2 y)) (field_ones n)) % 2 ≡ ones (y % 2 ^ (4 * n)) % 2
unfolding total
total_parity zero y =
    let none : y % 2 ^ (4 * 0) ≡ 0 = omega arith in
    rw (none, ones_bit 0 (omega arith))
total_parity (suc n) y =
    let above = y / 2 ^ 4 % 2 ^ (4 * n) in
    let wide : 4 * suc n ≡ 4 * n + 4 = omega arith in
    rw (total_first n (fold 1 (fold 2 y)), fold_above y, wide, mod-pow-add y (4 * n) 4, ones_cat 4 above (y % 2 ^ 4) (mod-lt y (omega arith)))
    (omega (arith, fold_lowest y, total_parity n (y / 2 ^ 4)))

-- ---- The product

field_ones_all : (n : ℕ) → 15 * field_ones n + 1 ≡ 2 ^ (4 * n)
unfolding field_ones
field_ones_all zero = refl
field_ones_all (suc n) =
    let wide : 4 * suc n ≡ 4 * n + 4 = omega arith in
    rw (wide, pow-add 2 (4 * n) 4) (omega (arith, field_ones_all n))

product_parts : (q r l : ℕ) → r < 2 ^ 4 → (q * 2 ^ 4 + r) * (l * 2 ^ 4 + 1) / 2 ^ 4 ≡ q * (15 * l + 1) + (q + r) * l
product_parts q r l h = omega arith

-- Without its lowest field the product with n + 1 ones is, in its n lowest fields, the product with n ones of the number above its lowest
-- field, to which that field is added.
product_first : (n z : ℕ)
    → z * field_ones (suc n) / 2 ^ 4 ≡ z / 2 ^ 4 * 2 ^ (4 * n) + (z / 2 ^ 4 + z % 2 ^ 4) * field_ones n
unfolding field_ones
product_first n z =
    ap (λ (x : ℕ). x * field_ones (suc n) / 2 ^ 4) (sym (split z 4))
    ∙ product_parts (z / 2 ^ 4) (z % 2 ^ 4) (field_ones n) (mod-lt z (omega arith))
    ∙ rw (field_ones_all n)

above_fields : (n q a : ℕ) → (q * 2 ^ (4 * suc n) + a) / 2 ^ (4 * n) % 2 ^ 4 ≡ a / 2 ^ (4 * n) % 2 ^ 4
above_fields n q a =
    let wide : 4 * suc n ≡ 4 + 4 * n = omega arith in
    rw (wide, pow-add 2 4 (4 * n), ← mul_assoc q (2 ^ 4) (2 ^ (4 * n)), mul-add-div_right (pow_pos (4 * n)) (q * 2 ^ 4) a) (omega arith)

-- Where a field holds the sum of all, the lowest may be added to the next.
total_carried : (n z : ℕ) → total (suc (suc n)) z < 2 ^ 4 → total (suc n) (z / 2 ^ 4 + z % 2 ^ 4) ≡ total (suc (suc n)) z
unfolding total
total_carried n z h =
    let lowest : (z / 2 ^ 4 + z % 2 ^ 4) % 2 ^ 4 ≡ z / 2 ^ 4 % 2 ^ 4 + z % 2 ^ 4 = omega arith in
    let above : (z / 2 ^ 4 + z % 2 ^ 4) / 2 ^ 4 ≡ z / 2 ^ 4 / 2 ^ 4 = omega arith in
    rw (lowest, above) (omega arith)

-- Over the number of fields: the product with n + 1 ones has the sum of n + 1 fields in field n.
product_total : (n z : ℕ) → total (suc n) z < 2 ^ 4 → z * field_ones (suc n) / 2 ^ (4 * n) % 2 ^ 4 ≡ total (suc n) z
unfolding total field_ones
product_total zero z h = omega arith
product_total (suc n) z h =
    let next = z / 2 ^ 4 + z % 2 ^ 4 in
    let product = z * field_ones (suc (suc n)) in
    let wide : 4 * suc n ≡ 4 + 4 * n = omega arith in
    let carried = total_carried n z h in
    ap (λ (e : ℕ). product / 2 ^ e % 2 ^ 4) wide
    ∙ ap (λ (x : ℕ). x % 2 ^ 4) (sym (shr-shr product 4 (4 * n)))
    ∙ ap (λ (x : ℕ). x / 2 ^ (4 * n) % 2 ^ 4) (product_first (suc n) z)
    ∙ above_fields n (z / 2 ^ 4) (next * field_ones (suc n))
    ∙ product_total n next (rw carried h)
    ∙ carried

-- ---- A register

-- With the ones three places higher, the sum's lowest bit is the highest of 32.
three_higher : (z : ℕ) → z * 0x8888_8888 / 2 ^ 31 ≡ z * 0x1111_1111 / 2 ^ 28
three_higher z = omega arith

product_highest : (z : ℕ) → bit_and (z * 0x8888_8888) 0xFFFF_FFFF / 2 ^ 31 ≡ z * 0x1111_1111 / 2 ^ 28 % 2
product_highest z =
    ap (λ (x : ℕ). x / 2 ^ 31) (and_mask (z * 0x8888_8888) 32)
    ∙ field (z * 0x8888_8888) 1 31
    ∙ ap (λ (x : ℕ). x % 2) (three_higher z)

odd_field : (n sum : ℕ) → n % 2 ^ 4 ≡ sum → n % 2 ≡ sum % 2
odd_field n sum e = omega arith

pub parity_product : (y : ℕ) → y < 2 ^ 32
    → bit_and (bit_and (fold 1 (fold 2 y)) 0x1111_1111 * 0x8888_8888) 0xFFFF_FFFF / 2 ^ 31 ≡ ones y % 2
unfolding field_ones
parity_product y h =
    let bits = bit_and (fold 1 (fold 2 y)) (field_ones 8) in
    let small : total 8 bits < 2 ^ 4 = omega (arith, total_below 8 (fold 1 (fold 2 y))) in
    product_highest bits
    ∙ odd_field (bits * field_ones 8 / 2 ^ 28) (total 8 bits) (product_total 7 bits small)
    ∙ total_parity 8 y
    ∙ ap (λ (x : ℕ). ones x % 2) (mod-eq_of_lt h)
