-- the schedule of a run
pub mod Schedule
-- what follows from the folds of a run
pub mod laws
