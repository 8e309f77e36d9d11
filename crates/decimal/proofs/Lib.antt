pub mod Figures
pub mod Write
