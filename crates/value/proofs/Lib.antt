pub mod Signed
pub mod Standard
pub mod Range
