pub mod FieldSets
pub mod Filling
pub mod Tables
