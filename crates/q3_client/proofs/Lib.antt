mod Numbered
mod Begins
mod Stays
mod Received
mod WholeMessages
mod Leaves
