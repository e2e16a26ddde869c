pub mod Classes
pub mod Pieces
pub mod Gives
pub mod FieldStarts
pub mod Compared
pub mod Ahead
pub mod Hashed
