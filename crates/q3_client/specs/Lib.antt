pub mod Client
pub mod Moves
pub mod Sending
pub mod Receiving
pub mod Saying
pub mod Standing
pub mod Laws
