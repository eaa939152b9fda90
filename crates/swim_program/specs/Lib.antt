pub mod Limits
pub mod Lines
pub mod Magic
pub mod Report
pub mod Words
