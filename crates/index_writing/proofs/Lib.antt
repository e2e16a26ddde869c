pub mod Numbering
pub mod Adding
pub mod Gathered
pub mod Inserts
pub mod Packing
pub mod Facts
pub mod Files
