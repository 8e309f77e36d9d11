pub mod Mapping
pub mod Where
pub mod Behind
