mod Begun
mod Listed
mod Runs
mod Taken
mod Told
