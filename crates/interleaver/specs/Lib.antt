-- `Places`: the place of each coded bit, the index of each place's coded bit, and when two tables are inverse to each other.
pub mod Places
