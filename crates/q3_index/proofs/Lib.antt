mod Fields
mod Heads
mod Listing
mod Opened
mod Places
mod Seeking
mod Stepping
mod Standing
mod ShortStates
mod Points
mod HeadsBack
mod Sought
mod Costing
mod Putting
mod Counting
mod Writing
mod Building
mod Causes
mod Refusals
pub mod FilesByName
pub mod Asking
