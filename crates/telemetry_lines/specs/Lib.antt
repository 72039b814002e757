-- `Text`: numbers, answers and the header as text. `Line`: the answer to a line. `Stream`: the output for an input, in whole and in parts.
-- `Example`: that of 01.
pub mod Text
pub mod Line
pub mod Stream
pub mod Example
