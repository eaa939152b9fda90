pub mod Message
pub mod Packet
pub mod Stream
pub mod Reply
pub mod InTheClear
pub mod Unwrapped
