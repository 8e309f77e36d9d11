pub mod Count
pub mod Enough
