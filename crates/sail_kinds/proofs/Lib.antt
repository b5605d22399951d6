pub mod Firsts
mod BinderNames
mod Tables
mod Clashes
mod Parts
mod Nested
mod PartPlaces
mod Opened
