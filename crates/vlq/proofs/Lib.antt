pub mod Places
pub mod Steps
pub mod Lanes
pub mod Values
pub mod Several
pub mod Runs
