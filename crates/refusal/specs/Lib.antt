-- `Refusals`: the table of refusals, its numbers by name, and the number and the place of a refusal.
pub mod Refusals
