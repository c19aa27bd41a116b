mod ToldPlaces
mod ToldHeld
mod TextPlaces
mod Numbered
mod Sent
mod ParcelPlaces
mod Readings
