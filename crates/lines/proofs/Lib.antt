pub mod Words
pub mod Numbers
pub mod Tokens
pub mod Ends
