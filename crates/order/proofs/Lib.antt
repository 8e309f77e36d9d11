pub mod Before
pub mod Falls
pub mod Rise
pub mod Worked
