pub mod Outside
pub mod InMemory
pub mod Front
pub mod Reader
pub mod Keys
pub mod Computes
pub mod formers
