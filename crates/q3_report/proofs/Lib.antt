mod Delivered
mod Printing
