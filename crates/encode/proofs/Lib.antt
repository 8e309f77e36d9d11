pub mod Answer
pub mod Measure
pub mod Passing
pub mod Unique
pub mod Within
pub mod Worked
pub mod Write
