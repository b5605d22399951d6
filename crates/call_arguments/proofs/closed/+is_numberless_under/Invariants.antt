use Rattle.std.proofs.Common.{◌≡◌, drop, map}
use Rattle.std.specs.List.{list_all}
use Rattle.call_arguments.specs.Callees.{is_numberless_under}
use Rattle.call_arguments.proofs.closed.+is_numberless_under.Given as goal

-- the rest decides
abbrev pub invariant-are_numberless-loop-typ : goal.invariant-are_numberless-loop-typ
invariant-are_numberless-loop-typ l =
    list_all (λ f. f l.depth) (map is_numberless_under (drop l.typ-index l.types)) ≡ list_all (λ f. f l.depth) (map is_numberless_under l.types)
