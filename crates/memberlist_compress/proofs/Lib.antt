pub mod Holding
pub mod Padding
pub mod Meanings
pub mod Codings
pub mod Encodings
pub mod Maps
pub mod Messages
