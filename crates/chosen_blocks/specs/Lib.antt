pub mod Chosen
pub mod Blocks
pub mod Ordinals
pub mod Laws
pub mod Rows
