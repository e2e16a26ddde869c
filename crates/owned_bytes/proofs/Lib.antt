pub mod Prefixes
pub mod Pieces
pub mod InTurn
pub mod FileReads
