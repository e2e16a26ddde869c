pub mod Errors
pub mod Opened
pub mod Opening
pub mod Steps
pub mod Numbers
pub mod LookUp
