pub mod Back
pub mod Digits
pub mod FewDigits
pub mod Loop
pub mod NearSteps
pub mod Sizes
pub mod Values
