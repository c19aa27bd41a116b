pub mod State
pub mod Heads
pub mod Arrays
pub mod Delta
pub mod Spelling
pub mod Laws
pub mod Report
