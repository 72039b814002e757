-- The convolutional code (01, 'Frame'): from the 50 bits of a word to its 162 coded bits, 01's S0 to S161.
use Rattle.std.specs.Prelude.{ℕ, ◌+◌, ◌*◌, ◌%◌, ◌^◌, List, [], ◌∷◌, ◌++◌, replicate}
use Rattle.std.specs.Int.Bits.{bit_and}
use Rattle.std.specs.Int.Count.{ones}
use Rattle.radix.specs.Numeral.{digits_of}

-- The n lowest bits of a number, highest first: its digits in n radices 2.
unfoldable pub bits_of : ℕ → ℕ → List ℕ
bits_of n number = digits_of (replicate n 2) number

-- "The 50 bits, highest first, then 31 zeros, are clocked one at a time"
unfoldable pub clocked_bits : ℕ → List ℕ
clocked_bits word = bits_of 50 word ++ replicate 31 0

-- "into two 32-bit shift registers .., the new bit lowest": the register after a bit.
unfoldable pub clocked : ℕ → ℕ → ℕ
clocked register bit = (register * 2 + bit) % 2 ^ 32

-- "the parity of the first register under mask F2D05351 (hexadecimal), then of the second under E4613C47": the masks.
unfoldable pub first_mask : ℕ
first_mask = 0xF2D0_5351

unfoldable pub second_mask : ℕ
second_mask = 0xE461_3C47

-- The parity of a register under a mask: in how many places both have a 1, modulo 2.
unfoldable pub parity : ℕ → ℕ → ℕ
parity mask register = ones (bit_and register mask) % 2

-- The coded bits of the bits that are clocked into the two registers: "After each bit: the parity of the first register .., then of the
-- second".
unfoldable pub coded_from : ℕ → ℕ → List ℕ → List ℕ
coded_from first second [] = []
coded_from first second (bit ∷ bits) =
    parity first_mask (clocked first bit)
    ∷ parity second_mask (clocked second bit)
    ∷ coded_from (clocked first bit) (clocked second bit) bits

-- "two 32-bit shift registers that start at zero"; "That gives 162 coded bits S0 to S161."
unfoldable pub coded_bits : ℕ → List ℕ
coded_bits word = coded_from 0 0 (clocked_bits word)
