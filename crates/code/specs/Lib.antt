pub mod Code
pub mod Narrow
