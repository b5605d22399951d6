pub mod OneAnswer
mod Onward
