pub mod Server
pub mod Taking
pub mod Standing
pub mod Laws
pub mod Apart
pub mod Isolated
