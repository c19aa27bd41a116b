-- exported: proofs of crates above may cite these
pub mod Binds
-- for this crate alone
mod Numbers
mod Texts
mod ReadOver
mod Windows
mod CodeText
mod Causes
mod WordTexts
mod MessageBytes
mod Written
mod EightBytes
mod Gathered
mod Runs
