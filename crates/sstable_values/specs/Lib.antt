pub mod Vint
pub mod Values
pub mod Range
pub mod Codec
pub mod Reads
pub mod Writes
pub mod Computes
pub mod Hex
