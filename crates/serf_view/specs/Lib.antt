pub mod Intents
pub mod RoundTrip
