-- exported: proofs of crates above may cite these
pub mod FieldRows
-- for this crate alone
mod Fronts
mod Rows
mod Spelled
mod Numbered
mod Nops
mod Turns
mod OperationTurns
mod CommandRows
mod RowSpelled
mod RowRead
