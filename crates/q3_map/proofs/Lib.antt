mod Rising
mod Held
mod Strings
mod Telling
