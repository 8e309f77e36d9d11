pub mod Memory
pub mod Pick
pub mod Table
pub mod Put
pub mod Same
