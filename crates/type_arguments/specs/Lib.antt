-- numbers, constraints and types read one binder further in
pub mod Moved
-- those with arguments in the place of the variables
pub mod Applied
-- types that nothing belongs to
pub mod Ranges
-- what follows from the definitions
pub mod laws
-- what a text stands for, by its kind
pub mod Taken
