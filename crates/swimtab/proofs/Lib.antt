mod Commands
mod FewRecords
mod FileByFile
mod LineByLine
mod Looping
pub mod Replaying
