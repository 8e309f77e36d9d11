pub mod Demand3
pub mod Terms
pub mod Worked
