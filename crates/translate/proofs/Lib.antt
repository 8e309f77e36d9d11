pub mod Covers
pub mod Moving
pub mod One
pub mod Pass
pub mod Scan
pub mod Whole
pub mod Worked
