pub mod Bounds
pub mod Rules
pub mod RuleBounds
pub mod WorkedRows
