pub mod Runs
pub mod Fields
pub mod Sums
pub mod Steps
pub mod Exact
pub mod OneReading
pub mod Worked
