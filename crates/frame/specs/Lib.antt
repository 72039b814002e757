-- A frame of 162 symbols, in 01's order: the symbols; then what writing and strict reading answer, and what they promise of each other.
pub mod Symbols
pub mod Answer
pub mod RoundTrip
