mod Fitting
mod Lifting
mod MapReads
mod PairReads
mod Places
mod WholeReads
mod WholePackets
pub mod Readings
pub mod Keys
pub mod Filling
pub mod MapFaults
pub mod Maps
pub mod Checking
pub mod Claimed
pub mod Messages
pub mod PacketTexts
pub mod StreamTexts
pub mod DatagramTexts
pub mod DatagramRefusals
pub mod OneMessage
pub mod OneStream
pub mod SpelledMaps
pub mod SpelledPairs
pub mod SpelledSteps
pub mod SpelledTexts
pub mod SpelledLengths
pub mod SpelledCompounds
pub mod Reasons
pub mod Parts
pub mod WholeDatagrams
pub mod UserState
pub mod InOrder
pub mod Prompt
pub mod AtHand
pub mod Compressions
pub mod Claimlesses
pub mod Asking
pub mod DatagramAsking
