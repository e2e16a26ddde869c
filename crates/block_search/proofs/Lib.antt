pub mod Taking
pub mod Keys
pub mod Skipping
pub mod Places
pub mod Fresh
