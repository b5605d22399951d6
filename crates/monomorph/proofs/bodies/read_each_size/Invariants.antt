use Rattle.std.proofs.Common.{◌≡◌, List, drop}
use Rattle.monomorph.specs.declared.found.Found.{Found}
use Rattle.monomorph.specs.Found.{over}
use Rattle.monomorph.specs.Reading.{inside_of, read_sizes}
use Rattle.monomorph.proofs.bodies.read_each_size.Given as goal

-- the rest decides
abbrev pub invariant-loop-picked : goal.invariant-loop-picked
invariant-loop-picked l = (found : List Found) → over (read_sizes (inside_of l.inside) l.place l.indices) (drop l.picked-index l.combinations) found
    ≡ over (read_sizes (inside_of l.inside) l.place l.indices) l.combinations found
