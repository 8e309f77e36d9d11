pub mod FirstLine
pub mod Reading
