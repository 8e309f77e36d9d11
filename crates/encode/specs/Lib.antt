pub mod Encode
pub mod Passes
