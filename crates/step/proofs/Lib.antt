pub mod Ends
pub mod Faults
pub mod Laws
pub mod Short
pub mod Sums
pub mod Told
