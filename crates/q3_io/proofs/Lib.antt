mod Sinks
mod Words
mod HexWords
