-- exported: proofs of crates above may cite these
pub mod Files
-- for this crate alone
mod Taking
