-- `Answer`: what repair answers, for every input. `Demand`: what is refused before a search, and demand 3, clause by clause. `Flips`: what is
-- repaired and what is refused of a sent word's frame, by its flipped data bits. `LiveCounts`: how long that may take. `Search`: what the
-- search keeps and finds.
pub mod Answer
pub mod Demand
pub mod Flips
pub mod LiveCounts
pub mod Search
