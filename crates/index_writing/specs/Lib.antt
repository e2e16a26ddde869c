pub mod Writes
pub mod Gathering
pub mod Emitting
