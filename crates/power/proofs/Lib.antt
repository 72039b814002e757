-- `Laws`: a legal power and its index are inverse to each other.
pub mod Laws
