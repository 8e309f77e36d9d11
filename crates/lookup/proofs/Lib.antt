pub mod Best
pub mod Part
pub mod Same
pub mod Scan
