use denote.Param.Weighed.{most}
use Rattle.std.proofs.Common.{◌≡◌, ◌+◌, ◌*◌, drop, map}
use Rattle.sail_types.proofs.types.Typ.TheLaws.{the_size}
use Rattle.told_sizes.specs.Among.{all_among, is_known, typ_among}
use Rattle.told_sizes.proofs.among.+typ_among.Given as goal

-- the rest decides
abbrev pub invariant-all_among-loop-part : goal.invariant-all_among-loop-part
invariant-all_among-loop-part l =
    all_among (map (typ_among l.types) (drop l.part-index l.parts)) (map is_known l.constants)
    ≡ all_among (map (typ_among l.types) l.parts) (map is_known l.constants)

-- the depth of the type; a list stands above each of its parts
abbrev pub decreases-typ_among : goal.decreases-typ_among
decreases-typ_among l = 2 * the_size l.typ.now

abbrev pub decreases-all_among : goal.decreases-all_among
decreases-all_among l = 2 * most the_size l.parts.now + 1
