pub mod Header
pub mod IndexFile
pub mod Opening
pub mod Computes
pub mod Rows
