pub mod Law
pub mod Within
