use Rattle.std.proofs.Common.{◌≡◌, drop}
use Rattle.size_notes.specs.Regions.{bound_by}
use Rattle.size_notes.proofs.regions.bound_by.Given as goal

-- the rest binds the others
abbrev pub invariant-loop-name : goal.invariant-loop-name
invariant-loop-name l = bound_by (drop l.name-index l.names) l.made ≡ bound_by l.names l.fn.typ
