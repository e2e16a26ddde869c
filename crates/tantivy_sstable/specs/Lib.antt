pub mod Opened
pub mod Opening
pub mod Finding
pub mod Steps
