mod Remains
mod Standing
mod Building
mod Lasting
