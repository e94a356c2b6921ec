pub mod Field
pub mod FieldSet
pub mod Reading
pub mod Table
pub mod Value
