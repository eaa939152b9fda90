pub mod Writing
pub mod Slots
pub mod Meaning
pub mod Coding
pub mod Compressed
