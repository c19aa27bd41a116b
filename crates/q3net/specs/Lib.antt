pub mod Faults
pub mod Lines
pub mod Summary
pub mod Verdict
pub mod Run
pub mod Trying
