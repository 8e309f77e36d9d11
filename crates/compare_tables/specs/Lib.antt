pub mod Compare
pub mod Walks
