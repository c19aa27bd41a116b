mod Decimals
mod Places
mod Translation
mod Pairs
mod Cuts
mod Numerals
mod Weights
