-- `FieldLaws`: the code of a reading and the reading of a code, field by field. `TableLaws`: the same for a table, and its legality.
-- `NumberLaws`: the number that holds the codes. `AnswerLaws`: the cases of the answers. `RoundTripLaws`: the round trips, and what the
-- functions promise.
mod FieldLaws
mod TableLaws
mod NumberLaws
mod AnswerLaws
mod RoundTripLaws
