pub mod Printed
pub mod Generated
