-- `Steps`: states, steps, paths and their weights. `States`: the encoder's own steps, forwards and backwards, and what they have to do with
-- coded bits. `Running`: counts that are kept along a path; `Onward`, `OnwardLaws`, `Backward`: those of the encoder's steps. `Reached`: the states within a
-- weight of another, found by a search. `Common`: whether two lists have anything in common.
pub mod Steps
pub mod States
pub mod Running
pub mod Onward
pub mod OnwardLaws
pub mod Backward
pub mod Reached
pub mod Common
