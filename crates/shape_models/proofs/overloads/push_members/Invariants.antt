use Rattle.std.proofs.Common.{◌≡◌, ◌++◌, drop}
use Rattle.shape_models.specs.Models.{members_at}
use Rattle.shape_models.specs.Held.{held}
use Rattle.shape_models.proofs.overloads.push_members.Given as goal

abbrev pub invariant-loop-name : goal.invariant-loop-name
invariant-loop-name l = l.added ++ members_at l.types (held l.values) l.place (drop l.name-index l.names)
    ≡ l.initial.added ++ members_at l.types (held l.values) l.place l.names
