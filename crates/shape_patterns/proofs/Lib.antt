mod Looks
mod Opened
mod Parts
