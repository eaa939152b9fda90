pub mod Keeping
pub mod Mirrored
pub mod Squares
