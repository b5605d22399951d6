use Rattle.std.proofs.Common.{◌≡◌, drop, map}
use Rattle.std.specs.List.{list_all}
use Rattle.wide_types.specs.Widening.{is_con_below}
use Rattle.wide_types.proofs.below.+is_con_below.Given as goal

-- the rest decides
abbrev pub invariant-are_cons_below-loop-part : goal.invariant-are_cons_below-loop-part
invariant-are_cons_below-loop-part l =
    list_all (λ is. is) (map (is_con_below l.variable) (drop l.part-index l.parts)) ≡ list_all (λ is. is) (map (is_con_below l.variable) l.parts)
