pub mod State
pub mod Report
pub mod Kept
pub mod Standing
pub mod Within
pub mod Laws
