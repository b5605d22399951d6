use Rattle.std.proofs.Common.{◌≡◌, ◌++◌, ℕ, List, drop, map}
use Rattle.lowered_types.specs.Table.{type_in}
use Rattle.lowered_pieces.specs.Nodes.{told_as}
use Rattle.jib_lower.proofs.instances.push_told.Given as goal

-- the numbers from here on stand behind those so far
abbrev pub invariant-loop-one : goal.invariant-loop-one
invariant-loop-one l = (new : List ℕ) → new ≡ l.numbers ++ map (type_in l.numbered) (map told_as (drop l.one-index l.told))
    → new ≡ l.initial.numbers ++ map (type_in l.numbered) (map told_as l.told)
