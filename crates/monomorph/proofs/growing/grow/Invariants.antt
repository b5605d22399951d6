use Rattle.std.proofs.Common.{◌≡◌, ◌-◌}
use Rattle.monomorph.specs.Instances.{grow}
use Rattle.monomorph.specs.Lasts.{model_in}
use Rattle.monomorph.proofs.growing.grow.Given as goal

-- the rest decides
abbrev pub invariant-loop-turn : goal.invariant-loop-turn
invariant-loop-turn l = grow (l.times - l._turn) (model_in l.model) l.at l.found ≡ grow l.times (model_in l.model) l.from l.initial.found
