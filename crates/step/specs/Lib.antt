pub mod Step
pub mod Ways
