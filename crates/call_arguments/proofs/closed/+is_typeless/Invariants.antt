use Rattle.std.proofs.Common.{◌≡◌, drop, map}
use Rattle.std.specs.List.{list_all}
use Rattle.call_arguments.specs.Callees.{is_typeless}
use Rattle.call_arguments.proofs.closed.+is_typeless.Given as goal

-- the rest decides
abbrev pub invariant-are_typeless-loop-typ : goal.invariant-are_typeless-loop-typ
invariant-are_typeless-loop-typ l = list_all (λ b. b) (map is_typeless (drop l.typ-index l.types)) ≡ list_all (λ b. b) (map is_typeless l.types)
