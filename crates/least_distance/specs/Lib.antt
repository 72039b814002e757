-- `Least`: the code's least distance.
pub mod Least
