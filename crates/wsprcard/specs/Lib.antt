-- `Results`: the structs of the C interface for the answers of the layers, and the layers' answers in them.
pub mod Results
