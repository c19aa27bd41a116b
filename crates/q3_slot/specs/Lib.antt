pub mod Slot
pub mod Emitting
pub mod Taking
pub mod Slots
pub mod Laws
pub mod Standing
