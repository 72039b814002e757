-- `FieldLaws`, `NumberLaws`, `VectorLaws`: the laws of the definitions of specs/ by subject.
mod FieldLaws
mod NumberLaws
mod VectorLaws
