-- A U4B message: the channel's two characters and two numbers, in a message and back. `Channel`: the characters of a channel and of a
-- sub-square. `Alphabet`: those that a callsign may hold. `Characters`: the numbers in the characters and the power. `Answer`: what writing
-- and reading answer. `RoundTrip`: what the two promise of each other.
pub mod Channel
pub mod Alphabet
pub mod Characters
pub mod Answer
pub mod RoundTrip
