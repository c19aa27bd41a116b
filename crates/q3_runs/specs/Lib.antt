pub mod Faults
pub mod Lines
pub mod Input
pub mod Verdict
pub mod Run
