pub mod Runs
pub mod Turn
pub mod Unique
pub mod Where
pub mod Behind
