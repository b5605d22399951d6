use Rattle.std.proofs.Common.{◌≡◌, drop}
use Rattle.monomorph.specs.Found.{over}
use Rattle.monomorph.specs.Reading.{read_way}
use Rattle.monomorph.proofs.bodies.read_each_way.Given as goal

-- the rest decides
abbrev pub invariant-loop-taken : goal.invariant-loop-taken
invariant-loop-taken l = over (read_way l.direction) (drop l._taken-index l.combinations) l.found
    ≡ over (read_way l.direction) l.combinations l.initial.found
