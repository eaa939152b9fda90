pub mod Inserting
pub mod Viewing
pub mod Changing
pub mod Same
pub mod Sourced
pub mod Known
pub mod Staying
pub mod Since
pub mod Forgetting
mod Fronts
mod Words
