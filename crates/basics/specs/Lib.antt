-- `Test`: tests on numbers that several layers' definitions make. `Lists`: lists by their places. `Below`: sums, counts, the
-- last that passes and least values over the numbers below n. `Rounding`: how far a value that was rounded to steps
-- is from the one measured. `Ascii`: text as bytes.
pub mod Test
pub mod Lists
pub mod Below
pub mod Rounding
pub mod Ascii
