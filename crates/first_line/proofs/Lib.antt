pub mod Count
pub mod Line
