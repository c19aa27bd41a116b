pub mod Snapshot
pub mod Places
pub mod Ring
pub mod Turned
pub mod Cells
pub mod Kept
pub mod Laws
