-- `Laws`: packing and unpacking are inverse, and what follows. `Turns`: one turn of the loops, over lists.
pub mod Laws
mod Turns
