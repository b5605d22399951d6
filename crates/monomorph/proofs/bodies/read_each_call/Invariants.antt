use Rattle.std.proofs.Common.{◌≡◌, drop}
use Rattle.monomorph.specs.Found.{over}
use Rattle.monomorph.specs.Reading.{inside_of, read_call}
use Rattle.monomorph.proofs.bodies.read_each_call.Given as goal

-- the rest decides
abbrev pub invariant-loop-picked : goal.invariant-loop-picked
invariant-loop-picked l =
    over (read_call (inside_of l.inside) l.call.place l.call.operands.now l.call.callee l.call.numbers.now l.call.types.now)
    (drop l.picked-index l.combinations) l.found
    ≡ over (read_call (inside_of l.inside) l.call.place l.call.operands.now l.call.callee l.call.numbers.now l.call.types.now) l.combinations
    l.initial.found
