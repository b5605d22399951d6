-- what the definitions of a text give, and names in its table of types
pub mod Text
pub mod Named
-- which callee a call comes to
pub mod Choice
-- what a form asks of the world around it
pub mod World
-- patterns
pub mod Widths
pub mod Patterns
-- expressions
pub mod Targets
pub mod Loops
pub mod Expressions
-- functions and mappings
pub mod Calls
-- lets, initial values and events
pub mod Start
-- sentences of the rules
pub mod Sentences
