use Rattle.std.proofs.Common.{◌≤◌, ◌-◌, length, subst, refl}
use Rattle.std.specs.Prelude.{slice_index_or}
use Rattle.fact_index.proofs.Filing.{popped}
use Rattle.fact_index.proofs.files.pop_past.Goals as goal

pub returns-in-Some : goal.returns-in-Some
returns-in-Some c = λ position below h.
    popped c.args.positions.now c.pop.new.self c.in-Some.field-0 c.args.mark position c.in-Some.ensures
    (subst (λ ps. c.args.mark ≤ slice_index_or ps (length ps - 1) 0) c.as_slice.ensures (c.if-ends_past.ensures refl)) below h
