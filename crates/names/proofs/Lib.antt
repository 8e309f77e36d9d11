pub mod Bytes
pub mod Ends
pub mod Ids
pub mod Places
pub mod Unique
