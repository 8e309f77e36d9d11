pub mod Blocks
pub mod Many
pub mod Places
