pub mod Members
pub mod Named
pub mod Printed
pub mod Remade
