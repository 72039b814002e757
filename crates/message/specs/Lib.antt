-- A WSPR type 1 message (01: triple) and its 50-bit word, in 01's order: the characters, the word; then what packing
-- and unpacking answer, and what the two promise of each other.
pub mod Character
pub mod Word
pub mod Answer
pub mod RoundTrip
