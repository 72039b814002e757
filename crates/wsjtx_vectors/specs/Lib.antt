-- `Field`: the fields of a line. `Number`: numerals. `Vector`: what a line says.
pub mod Field
pub mod Number
pub mod Vector
