pub mod Map
pub mod Laws
