pub mod Between
pub mod Bounds
pub mod States
pub mod Knowing
pub mod Held
pub mod Streams
pub mod Steps
pub mod Places
