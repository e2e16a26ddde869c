pub mod Chosen
pub mod Ordinals
pub mod Resting
