pub mod Cause
pub mod Chosen
pub mod Lines
pub mod Outcome
pub mod Packet
pub mod Stream
pub mod Unwrapped
pub mod Words
