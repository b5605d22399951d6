use Rattle.value_indices.proofs.Forced.{restored_in_force, restore_none}
use Rattle.size_splits.proofs.force.restore.Goals as goal

pub returns-in-Some : goal.returns-in-Some
returns-in-Some c = λ w h. restored_in_force w _ _ _ _ c.in-Some.mark c.truncate.ensures.items c.in-Some.ensures h

pub returns-in_default : goal.returns-in_default
returns-in_default c = λ w h. restore_none w _ _ _ c.in_default.ensures h
