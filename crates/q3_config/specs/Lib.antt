pub mod Strings
pub mod Commands
pub mod Changes
pub mod Laws
pub mod Table
pub mod Parts
