pub mod NameIds
pub mod Answers
