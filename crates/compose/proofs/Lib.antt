pub mod Ask
pub mod Laws
pub mod Made
pub mod Step
pub mod Tests
pub mod Turn
pub mod Unique
pub mod Whole
