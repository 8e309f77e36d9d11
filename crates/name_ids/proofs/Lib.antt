pub mod Find
pub mod Grow
pub mod Holes
pub mod Known
pub mod Stays
pub mod Unique
