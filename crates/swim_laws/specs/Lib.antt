pub mod Claims
pub mod Above
pub mod Places
pub mod Living
pub mod State
pub mod Nodes
pub mod Runs
