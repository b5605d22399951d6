mod Growing
mod Finding
