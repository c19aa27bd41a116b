pub mod AtServer
pub mod AtClient
pub mod Recording
pub mod ClientLine
