-- `Powers`: the 19 legal powers and their indexes.
pub mod Powers
