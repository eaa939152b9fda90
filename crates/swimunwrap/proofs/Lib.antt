pub mod LineByLine
pub mod Commands
pub mod Outcomes
pub mod Streams
