pub mod Standard
pub mod Value
