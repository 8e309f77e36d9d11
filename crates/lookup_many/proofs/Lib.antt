pub mod Blocks
pub mod Pairs
pub mod Tests
pub mod Whole
pub mod Worked
