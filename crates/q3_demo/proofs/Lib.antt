-- exported: proofs of crates above may cite these
pub mod Pieces
pub mod Going
pub mod Taking
-- for this crate alone
mod Accepted
mod Whole
mod Finding
mod Asking
mod Refusals
mod PlayingOn
mod EndingAll
mod Printed
mod Fronts
mod Stepping
mod Adding
