-- `CharacterLaws`, `WordLaws`, `AnswerLaws`: the laws of the definitions of specs/ by subject. `CapitalLaws`: that small letters count as
-- their capitals in each of them. `RoundTripLaws`: what packing and unpacking promise of each other.
pub mod CharacterLaws
pub mod WordLaws
pub mod AnswerLaws
pub mod CapitalLaws
pub mod RoundTripLaws
