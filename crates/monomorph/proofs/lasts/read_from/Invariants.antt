use Rattle.std.proofs.Common.{◌≡◌, drop, map}
use Rattle.size_splits.specs.Bodies.{body_read}
use Rattle.monomorph.specs.Lasts.{last_from, model_in}
use Rattle.monomorph.proofs.lasts.read_from.Given as goal

-- the rest decides
abbrev pub invariant-loop-at : goal.invariant-loop-at
invariant-loop-at l =
    last_from (model_in l.model) (drop l.at l.registers) (drop l.at l.texts) l.openings_left (map body_read l.bodies_left) l.found
    ≡ last_from (model_in l.model) l.registers l.texts l.openings (map body_read l.bodies) l.initial.found
