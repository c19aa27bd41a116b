pub mod Lines
pub mod Script
pub mod Grammar
pub mod Laws
