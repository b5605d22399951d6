mod Pieces
mod Names
mod Patterns
mod Targets
mod NodesAlike
mod Models
