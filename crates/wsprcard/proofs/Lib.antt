-- `ResultLaws`: the layers' answers in the structs of the C interface.
mod ResultLaws
