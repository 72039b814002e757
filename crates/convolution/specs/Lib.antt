-- `Code`: the convolutional code of a word, in 01's order. `Decoding`: the word that coded bits determine.
pub mod Code
pub mod Decoding
