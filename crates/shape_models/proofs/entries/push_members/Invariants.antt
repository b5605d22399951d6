use Rattle.std.proofs.Common.{◌≡◌, ◌++◌, drop}
use Rattle.shape_models.specs.Models.{members_from}
use Rattle.shape_models.proofs.entries.push_members.Given as goal

abbrev pub invariant-loop-place : goal.invariant-loop-place
invariant-loop-place l = l.entries ++ members_from l.enum_place l.place (drop l.place l.members)
    ≡ l.initial.entries ++ members_from l.enum_place 0 l.members
