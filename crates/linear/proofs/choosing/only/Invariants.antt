use Rattle.std.proofs.Common.{◌≡◌, ◌-◌, ◌++◌}
use Rattle.linear.specs.Choices.{only}
use Rattle.linear.proofs.choosing.only.Given as goal

abbrev pub invariant-loop : goal.invariant-loop
invariant-loop l = l.list ++ only (l.place - l.counter) l.fn.number ≡ only l.place l.fn.number
