use Rattle.value_indices.proofs.Forced.{forget_in_force, forget_none}
use Rattle.size_splits.proofs.force.forget.Goals as goal

pub returns-in-None : goal.returns-in-None
returns-in-None c = λ w facts h. forget_none w facts _ _ c.in-None.ensures h

pub returns-in-Some : goal.returns-in-Some
returns-in-Some c = λ w facts h. forget_in_force w facts _ _ _ c.in-Some.ensures h
