-- `Choice`: tests, and how the cases of a definition that tests and refuses are told apart. `Tables`: a rule of every entry.
-- `Filling`: a loop that fills a list. `ListLaws`: lists by their places. `SearchLaws`: a search for a place. `BelowLaws`: sums,
-- counts, the last that passes and least values over the numbers below n. `Integers`: order, sums and differences of integers.
-- `RoundingLaws`: values rounded to steps.
pub mod Choice
pub mod Tables
pub mod Filling
pub mod ListLaws
pub mod SearchLaws
pub mod BelowLaws
pub mod Integers
pub mod RoundingLaws
pub mod RangeTests
