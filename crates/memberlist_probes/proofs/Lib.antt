pub mod Completing
pub mod Excluding
pub mod Happening
pub mod Narrowing
pub mod Scoring
