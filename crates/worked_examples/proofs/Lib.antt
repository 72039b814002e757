-- `Agrees`: the worked examples agree with the definitions.
pub mod Agrees
