pub mod Node
pub mod AtServer
pub mod AtClient
pub mod Running
pub mod Laws
