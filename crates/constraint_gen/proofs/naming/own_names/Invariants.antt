use Rattle.std.proofs.Common.{◌≡◌, None, drop, replicate}
use Rattle.constraint_gen.specs.Reading.{name_steps}
use Rattle.constraint_gen.proofs.naming.own_names.Given as goal

abbrev pub invariant-loop-step : goal.invariant-loop-step
invariant-loop-step l = name_steps (drop l.step-index l.steps) l.names ≡ name_steps l.steps (replicate l.count None)
