mod Packets
mod Refused
mod ScriptLines
pub mod ScriptNumbers
pub mod ScriptOrder
pub mod ScriptRun
mod ScriptWords
