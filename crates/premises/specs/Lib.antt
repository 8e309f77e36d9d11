pub mod Before
pub mod Premises
