pub mod Texts
pub mod Reading
pub mod Spelling
pub mod Commands
pub mod Turns
pub mod Operations
pub mod Laws
