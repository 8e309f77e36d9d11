pub mod Answer
pub mod Loops
