pub mod Room
pub mod Report
pub mod Printed
