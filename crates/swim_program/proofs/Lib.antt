pub mod CountedLines
pub mod Commands
pub mod Copies
pub mod LineFeeds
