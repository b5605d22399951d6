use Rattle.std.proofs.Common.{◌≡◌, drop, map}
use Rattle.std.specs.List.{list_any}
use Rattle.type_arguments.specs.Ranges.{is_void}
use Rattle.type_arguments.proofs.ranges.+is_void.Given as goal

-- the rest decides
abbrev pub invariant-is_any_void-loop-part : goal.invariant-is_any_void-loop-part
invariant-is_any_void-loop-part l = list_any (λ is. is) (map is_void (drop l.part-index l.parts)) ≡ list_any (λ is. is) (map is_void l.parts)
