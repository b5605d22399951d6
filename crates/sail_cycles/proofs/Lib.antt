mod Edges
mod Telling
