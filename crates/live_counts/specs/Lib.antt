-- `CleanCounts`: the live count of a word's own coded bits.
pub mod CleanCounts
