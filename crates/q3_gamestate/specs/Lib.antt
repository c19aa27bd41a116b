pub mod Values
pub mod Texts
pub mod Reading
pub mod Spelling
pub mod Laws
