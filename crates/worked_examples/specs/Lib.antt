-- `Table`: the worked examples that are proved.
pub mod Table
