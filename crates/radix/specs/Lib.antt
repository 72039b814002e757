-- `Numeral`: mixed-radix numerals.
pub mod Numeral
