pub mod Text
pub mod Opening
pub mod Seeking
pub mod Running
pub mod Steps
pub mod Laws
