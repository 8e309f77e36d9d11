pub mod Fields
pub mod Lead
pub mod Lists
pub mod Same
pub mod State
