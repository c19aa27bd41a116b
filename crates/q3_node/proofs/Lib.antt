mod Parts
mod Turning
mod Reaching
mod Serving
mod Joining
