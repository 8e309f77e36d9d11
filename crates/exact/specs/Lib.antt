pub mod Text
pub mod Exact
