pub mod Path
pub mod Bounds
