mod Depths
mod Settings
