mod Round
mod Held
mod Stands
mod Runs
mod Messages
mod Flowing
mod Staying
