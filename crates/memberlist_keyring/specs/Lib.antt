pub mod Opening
pub mod Cutting
pub mod Sending
pub mod KeyFile
pub mod Fault
