pub mod FieldEpochs
pub mod Heard
