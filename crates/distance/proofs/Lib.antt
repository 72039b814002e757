-- `Bits`: lists of bits, their sums and differences. `Linear`: the code is linear. `BitCounts`: counts over lists of bits. `PrefixLaws`:
-- the prefixes of a word, and longer ones. `Recentred`: the live prefixes around a sent word, and around any received bits. `Tree`: the live
-- count as a tree with pruning. `NearestLaws`: the nearest word. `StepLaws`: a prefix that is one bit longer, and what the bit adds. `Spans`:
-- the words with a prefix. `Passed`: the live prefixes that a search has passed.
pub mod Bits
pub mod Linear
mod BitCounts
pub mod PrefixLaws
pub mod Recentred
pub mod Tree
pub mod NearestLaws
pub mod StepLaws
pub mod Spans
pub mod Passed
