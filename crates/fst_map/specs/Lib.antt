pub mod Automaton
pub mod Machines
pub mod Map
pub mod Built
pub mod Opened
pub mod Refused
pub mod Within
pub mod Rows
