-- exported: proofs of crates above may cite these
pub mod Loading
pub mod Acting
pub mod Looking
pub mod Ending
pub mod Refusing
pub mod Indexing
-- for this crate alone
mod Reading
mod Early
mod Numbered
mod Demoing
mod Sought
mod SoughtPlays
mod AskedByName
mod SoughtCheap
mod Noding
