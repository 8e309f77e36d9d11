pub mod Demands
pub mod Worked
