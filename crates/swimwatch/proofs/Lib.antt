mod Authentic
mod ClearClaims
mod Connecting
mod Flowing
mod Saying
mod Seatings
mod Seats
pub mod Beginning
pub mod Changes
pub mod Clusters
pub mod Hearing
pub mod LeavesRead
pub mod Packets
pub mod Pings
pub mod Prefixes
pub mod Rosters
pub mod Turning
mod Waiting
mod Yielding
