pub mod Packed
pub mod Within
pub mod Lanes
pub mod Blocked
pub mod Extremes
pub mod BlockedRest
