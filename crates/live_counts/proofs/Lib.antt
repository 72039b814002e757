-- `CountedTree`: the tree of live prefixes in a form that is computed. `Clean`: the live counts around a word without flipped bits. `OneBit`:
-- lists of bits that differ in one place. `OneFlip`: the live counts around a word with one flipped bit.
mod CountedTree
pub mod Clean
mod OneBit
pub mod OneFlip
