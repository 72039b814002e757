-- `Prefixes`: prefixes, their disagreements with received bits, and the live count. `Nearest`: the word with the fewest disagreements. `Steps`:
-- from a prefix to those that are one bit longer.
pub mod Prefixes
pub mod Nearest
pub mod Steps
