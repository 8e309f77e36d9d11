pub mod Ranges
pub mod Below
pub mod Tables
pub mod Words
pub mod Shorts
