-- exported: proofs of crates above may cite these
pub mod Options
pub mod BuiltText
pub mod Survives
-- for this crate alone
mod BitFronts
mod MessageKeys
mod BuiltRead
mod SaidRead
mod Begun
