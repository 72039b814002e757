-- `CodeLaws`: the bits of a word, the registers, parity. `Coding`: a loop that clocks the bits of a word. `DecodingLaws`: coded bits
-- determine the clocked bits. `ParityLaws`: parity is linear. `Folding`: parity without counting. `Turns`: one turn of the loops of `encode`
-- and `decode`.
pub mod CodeLaws
pub mod Coding
pub mod DecodingLaws
pub mod ParityLaws
mod Folding
mod Turns
