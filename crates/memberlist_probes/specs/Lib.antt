pub mod Captured
pub mod Complete
pub mod Health
pub mod Outcomes
pub mod Points
pub mod Showing
pub mod Telling
pub mod Worlds
