pub mod Heard
pub mod Lasting
pub mod Member
pub mod Rules
pub mod Shown
pub mod Sources
pub mod Told
pub mod Prefix
