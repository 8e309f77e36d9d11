pub mod Rendered
pub mod Worked
