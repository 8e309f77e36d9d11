pub mod Changes
pub mod Once
pub mod Turns
