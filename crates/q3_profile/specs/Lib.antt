pub mod Items
pub mod Document
pub mod Mark
pub mod Profile
pub mod Seen
pub mod Laws
