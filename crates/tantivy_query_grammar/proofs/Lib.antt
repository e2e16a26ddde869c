pub mod Loops
pub mod Numbers
pub mod Fields
pub mod FoundDigits
