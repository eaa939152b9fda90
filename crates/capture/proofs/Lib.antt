mod Checking
mod Clocks
mod Gathering
mod Hearing
mod Made
mod Parts
mod Steps
pub mod Covering
pub mod Queued
pub mod Saying
pub mod Stepping
pub mod Written
pub mod NumberBytes
pub mod Prompting
pub mod PcapText
pub mod Whole
pub mod SameEnds
pub mod Inverting
pub mod Ending
pub mod PcapRead
pub mod PcapngText
pub mod Options
pub mod CaptureText
pub mod PcapngRead
pub mod Exact
pub mod CaptureRead
pub mod PcapngParts
pub mod PcapngBlocks
pub mod Yielding
