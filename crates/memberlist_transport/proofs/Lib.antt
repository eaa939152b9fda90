pub mod Packets
pub mod Streams
pub mod Replies
pub mod Unwrapping
pub mod UnwrappedStreams
