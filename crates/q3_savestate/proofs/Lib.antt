-- exported: proofs of crates above may cite these
pub mod Fields
pub mod HeldInOrder
pub mod HeldRules
-- for this crate alone
mod Words
mod EntitiesBack
mod EntitiesWere
mod Gaps
mod BaselinesBack
mod TextsBack
mod Rows
mod PartsRead
mod Heads
mod SnapshotsBack
mod HeldSoFar
mod SnapshotsWere
mod Whole
mod WrittenRows
mod Numbers
mod Numbered
mod Ranges
mod WordsRead
mod SetBaselines
mod BaselinesRead
mod EntitiesRead
mod SnapshotRead
mod SnapshotsRead
mod SetStrings
mod StringsRead
mod Starts
mod Saving
