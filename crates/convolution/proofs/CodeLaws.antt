-- Laws of the convolutional code: the clocked bits, the two registers, and parity under a mask whose lowest bit is 1.
use mathlib.Core.Path.{◌≡◌, refl, ap, ◌∙◌}
use Prim.Native.Nat.{ℕ, zero, suc, ◌+◌, ◌-◌, ◌*◌, ◌/◌, ◌%◌, ◌^◌, ◌≤◌, ◌<◌, min}
use native.Mathlib.Nat.{mod-lt}
use native.Mathlib.Omega.{arith}
use mathlib.Core.List.{List, [], ◌∷◌, ◌++◌}
use lib.Bits.{bit_and, bit_or, and_step, or_shifted}
use lib.Count.{ones, ones_step}
use lib.ListN.{length, get_or, replicate, length-append, length-replicate, get_or-replicate, get_or-append, get_or-eq_default}
use lib.Seq.{get_or-append-add}
use Rattle.basics.proofs.Choice.{below_or_not}
use Rattle.radix.specs.Numeral.{Digits, Positive, count, number_of, digits_of}
use Rattle.radix.proofs.Laws.{digits_length, count_same, digits_in_range, number_of_digits_of}
use Rattle.convolution.specs.Code.{bits_of, clocked_bits, clocked, first_mask, second_mask, parity, coded_from, coded_bits}

-- ---- The bits of a word

pub count_bits : (n : ℕ) → count (replicate n 2) ≡ 2 ^ n
count_bits n = count_same n 2

pub positive_bits : (n : ℕ) → Positive (replicate n 2)
unfolding Positive
positive_bits zero = tt
positive_bits (suc n) = (omega arith, positive_bits n)

pub bits_in_range : (n number : ℕ) → Digits (replicate n 2) (bits_of n number)
unfolding bits_of
bits_in_range n number = digits_in_range (replicate n 2) number (positive_bits n)

-- They write it.
pub bits_number : (n : ℕ) {number : ℕ} → number < 2 ^ n → number_of (replicate n 2) (bits_of n number) ≡ number
unfolding bits_of
bits_number n h = number_of_digits_of (replicate n 2) (positive_bits n) (rw (count_bits n) h)

pub length_bits_of : (n number : ℕ) → length (bits_of n number) ≡ n
length_bits_of n number = digits_length (replicate n 2) (bits_of n number) (bits_in_range n number) ∙ length-replicate n 2

-- Bit i of n, highest first, has n - 1 - i bits below it.
get_d_bits_of : (n number i below : ℕ) → i + suc below ≡ n → get_or (bits_of n number) i 0 ≡ number / 2 ^ below % 2
unfolding bits_of digits_of
get_d_bits_of zero number i below e = absurd (omega arith)
get_d_bits_of (suc n) number zero below e =
    let same : n ≡ below = omega arith in
    rw (count_bits n, same)
get_d_bits_of (suc n) number (suc i) below e = get_d_bits_of n number i below (omega arith)

pub length_clocked_bits : (word : ℕ) → length (clocked_bits word) ≡ 81
unfolding clocked_bits
length_clocked_bits word = rw (length-append (bits_of 50 word) (replicate 31 0), length_bits_of 50 word)

pub clocked_first : (word step : ℕ) → step < 50 → get_or (clocked_bits word) step 0 ≡ word / 2 ^ (49 - step) % 2
unfolding clocked_bits
clocked_first word step h =
    get_or-append (bits_of 50 word) (replicate 31 0) 0 step (omega (arith, length_bits_of 50 word))
    ∙ get_d_bits_of 50 word step (49 - step) (omega arith)

-- After a word's 50 bits only zeros are clocked.
pub clocked_later : (word step : ℕ) → 50 ≤ step → get_or (clocked_bits word) step 0 ≡ 0
unfolding clocked_bits
clocked_later word step h =
    let past : step ≡ length (bits_of 50 word) + (step - 50) = omega (arith, length_bits_of 50 word) in
    ap (λ (i : ℕ). get_or (bits_of 50 word ++ replicate 31 0) i 0) past
    ∙ get_or-append-add (bits_of 50 word) (replicate 31 0) (step - 50) 0
    ∙ below_or_not (step - 50) 31
    (λ k. get_or-replicate 31 (step - 50) 0 0 k)
    (λ k. get_or-eq_default (replicate 31 0) 0 {n = step - 50} k)

pub clocked_below : (word step : ℕ) → get_or (clocked_bits word) step 0 < 2
clocked_below word step =
    below_or_not step 50
    (λ first. rw (clocked_first word step first) (mod-lt (word / 2 ^ (49 - step)) (omega arith)))
    (λ later. rw (clocked_later word step later) (omega arith))

-- ---- The registers

-- The older bits, and the newest.
clocked_older : (register bit : ℕ) → bit < 2 → clocked register bit / 2 ≡ register % 2 ^ 31
unfolding clocked
clocked_older register bit h = omega arith

clocked_newest : (register bit : ℕ) → bit < 2 → clocked register bit % 2 ≡ bit
unfolding clocked
clocked_newest register bit h = omega arith

rejoined : (n older newest : ℕ) → n / 2 ≡ older → n % 2 ≡ newest → older * 2 ^ 1 + newest ≡ n
rejoined n older newest e f = omega arith

-- Shifted left, the new bit lowest.
pub clocked_shifted : (register bit : ℕ) → bit < 2 → bit_or (register * 2 % 2 ^ 32) bit ≡ clocked register bit
clocked_shifted register bit h =
    let even : register * 2 % 2 ^ 32 ≡ register % 2 ^ 31 * 2 ^ 1 = omega arith in
    rw (even, or_shifted (register % 2 ^ 31) 1 bit h)
    (rejoined (clocked register bit) (register % 2 ^ 31) bit (clocked_older register bit h) (clocked_newest register bit h))

-- The coded bits of one register, under both masks.
unfoldable pub coded_with : ℕ → List ℕ → List ℕ
coded_with register [] = []
coded_with register (bit ∷ bits) =
    parity first_mask (clocked register bit) ∷ parity second_mask (clocked register bit) ∷ coded_with (clocked register bit) bits

-- Both registers hold the same bits, so that one serves for both.
pub both_registers : (register : ℕ) (bits : List ℕ) → coded_from register register bits ≡ coded_with register bits
unfolding coded_from coded_with
both_registers register [] = refl
both_registers register (bit ∷ bits) = rw (both_registers (clocked register bit) bits)

pub length_coded_from : (first second : ℕ) (bits : List ℕ) → length (coded_from first second bits) ≡ 2 * length bits
unfolding coded_from
length_coded_from first second [] = refl
length_coded_from first second (bit ∷ bits) = omega (arith, length_coded_from (clocked first bit) (clocked second bit) bits)

pub length_coded_bits : (word : ℕ) → length (coded_bits word) ≡ 162
unfolding coded_bits
length_coded_bits word = omega (arith, length_coded_from 0 0 (clocked_bits word), length_clocked_bits word)

-- ---- Parity

pub parity_below : (mask register : ℕ) → parity mask register < 2
unfolding parity
parity_below mask register = mod-lt (ones (bit_and register mask)) (omega arith)

pub coded_below : (first second : ℕ) (bits : List ℕ) (i : ℕ) → get_or (coded_from first second bits) i 0 < 2
unfolding coded_from
coded_below first second [] i = omega arith
coded_below first second (bit ∷ bits) zero = parity_below first_mask (clocked first bit)
coded_below first second (bit ∷ bits) (suc zero) = parity_below second_mask (clocked second bit)
coded_below first second (bit ∷ bits) (suc (suc i)) = coded_below (clocked first bit) (clocked second bit) bits i

pub coded_bits_below : (word i : ℕ) → get_or (coded_bits word) i 0 < 2
unfolding coded_bits
coded_bits_below word i = coded_below 0 0 (clocked_bits word) i

pub first_odd : first_mask % 2 ≡ 1
unfolding first_mask
first_odd = refl

pub second_odd : second_mask % 2 ≡ 1
unfolding second_mask
second_odd = refl

-- The places where both have a 1: the lowest, then the rest.
pub ones_and : (x mask : ℕ) → ones (bit_and x mask) ≡ min (x % 2) (mask % 2) + ones (bit_and (x / 2) (mask / 2))
ones_and x mask =
    let rest = bit_and (x / 2) (mask / 2) in
    let lowest = min (x % 2) (mask % 2) in
    let small : x % 2 < 2 = mod-lt x (omega arith) in
    let odd : (rest * 2 + lowest) % 2 ≡ lowest = omega arith in
    let half : (rest * 2 + lowest) / 2 ≡ rest = omega arith in
    rw (and_step x mask, ones_step (rest * 2 + lowest), odd, half)

-- Under a mask whose lowest bit is 1 the new bit counts: the older bits' parity, plus the new bit.
parity_clocked : (mask register bit : ℕ) → mask % 2 ≡ 1 → bit < 2
    → parity mask (clocked register bit) ≡ (bit + ones (bit_and (register % 2 ^ 31) (mask / 2))) % 2
unfolding parity
parity_clocked mask register bit odd h =
    let newest : min bit 1 ≡ bit = omega arith in
    rw (ones_and (clocked register bit) mask, clocked_newest register bit h, clocked_older register bit h, odd, newest)

-- So the coded bits of a 0 and of a 1 differ.
pub parity_other : (mask register : ℕ) → mask % 2 ≡ 1 → parity mask (clocked register 0) + parity mask (clocked register 1) ≡ 1
parity_other mask register odd =
    omega (arith, parity_clocked mask register 0 odd (omega arith), parity_clocked mask register 1 odd (omega arith))
