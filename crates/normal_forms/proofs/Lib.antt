pub mod Readings
mod Amounts
