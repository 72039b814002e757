-- `SymbolLaws`: symbols, a word's frame, and back to its coded bits. `Replacing`: a loop that replaces a list in place. `AnswerLaws`: the
-- cases of the answers. `RoundTripLaws`: what writing and strict reading promise of each other.
pub mod SymbolLaws
mod Replacing
pub mod AnswerLaws
pub mod RoundTripLaws
