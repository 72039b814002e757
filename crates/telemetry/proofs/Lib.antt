-- `RangeLaws`, `CodeLaws`, `NumberLaws`: what is measured, its codes and the two numbers. `AnswerLaws`: the cases of the answers.
-- `RoundTripLaws`: writing and reading, one after the other.
pub mod RangeLaws
pub mod CodeLaws
pub mod NumberLaws
pub mod AnswerLaws
pub mod RoundTripLaws
