pub mod Outgoing
pub mod Incoming
pub mod Cells
pub mod Issued
pub mod Executed
pub mod Flow
pub mod Report
pub mod Laws
