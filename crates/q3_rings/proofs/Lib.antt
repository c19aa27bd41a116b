pub mod Lists
pub mod Aging
pub mod Accepting
pub mod Rising
pub mod Near
pub mod Behind
pub mod Added
pub mod Kept
