pub mod Memory
pub mod Pick
pub mod Put
pub mod Same
