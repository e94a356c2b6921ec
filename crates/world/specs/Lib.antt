pub mod Sides
pub mod Came
pub mod Ready
pub mod Stands
pub mod Missing
