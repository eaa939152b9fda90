pub mod Alike
pub mod Cluster
pub mod Exchanging
pub mod Fault
pub mod Heard
pub mod Levels
pub mod OverMemory
pub mod Paths
