-- `BoundLaws`: the limit and the budget. `AnswerLaws`: the answer is what demand 3 asks for. `CheckLaws`: what is refused before a search.
-- `FlipLaws`: flipped data bits: frames are 28 apart. `FlipAnswers`: so flips within the limit are repaired, and what follows of more.
-- `BestLaws`: the nearest word so far. `Walk`: the moves of the search. `FoundLaws`: the answer that a search gives. `LiveLaws`: the live counts by flips and of any
-- frame, and what is answered on them. `Promises`: all that the answer is held to.
pub mod BoundLaws
pub mod AnswerLaws
pub mod CheckLaws
pub mod FlipLaws
pub mod FlipAnswers
pub mod BestLaws
pub mod Walk
pub mod FoundLaws
pub mod LiveLaws
pub mod Promises
