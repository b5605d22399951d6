mod Changed
mod Growing
mod Putting
