use Rattle.std.proofs.Common.{◌≡◌, drop}
use Rattle.call_arguments.specs.Placing.{is_placed}
use Rattle.call_arguments.proofs.places.is_placed.Given as goal

-- the rest decides
abbrev pub invariant-loop-number : goal.invariant-loop-number
invariant-loop-number l = is_placed (drop l.number-index l.known) l.variable ≡ is_placed l.known l.variable
