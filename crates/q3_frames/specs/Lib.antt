pub mod Frames
pub mod Built
pub mod Loans
pub mod KeptFrames
pub mod Laws
