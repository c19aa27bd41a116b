pub mod Built
pub mod Writing
