pub mod Answer
pub mod Build
pub mod Chain
pub mod Entries
pub mod Given
pub mod Latest
pub mod Slots
pub mod Walk
