pub mod Chosen
pub mod Faults
pub mod Files
pub mod Lines
pub mod Looping
pub mod Replay
pub mod Words
