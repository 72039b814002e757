-- `CallsignLaws`, `LocatorLaws`: the two numbers in a message and back. `AnswerLaws`: the cases of the answers.
-- `RoundTripLaws`: writing and reading, one after the other.
pub mod CallsignLaws
pub mod LocatorLaws
pub mod AnswerLaws
pub mod RoundTripLaws
