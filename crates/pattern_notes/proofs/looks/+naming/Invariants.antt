use Rattle.std.proofs.Common.{◌≡◌, ◌+◌, ◌*◌, ◌++◌, map, drop}
use denote.Param.Weighed.{most}
use Rattle.sail_core.proofs.patterns.Pattern.TheLaws.{the_size}
use Rattle.pattern_notes.specs.Patterns.{look}
use Rattle.pattern_notes.proofs.looks.+naming.Given as goal

abbrev pub decreases-naming_of : goal.decreases-naming_of
decreases-naming_of l = 4 * the_size l.pattern.now

abbrev pub decreases-part_namings : goal.decreases-part_namings
decreases-part_namings l = 4 * most the_size l.parts.now + 1

abbrev pub decreases-form_naming : goal.decreases-form_naming
decreases-form_naming l = 4 * most the_size l.parts.now + 3

abbrev pub decreases-naming_as : goal.decreases-naming_as
decreases-naming_as l = 4 * most the_size l.parts.now + 1

abbrev pub decreases-only_naming : goal.decreases-only_naming
decreases-only_naming l = 4 * most the_size l.parts.now + 1

abbrev pub decreases-head_naming : goal.decreases-head_naming
decreases-head_naming l = 4 * most the_size l.parts.now + 2

abbrev pub invariant-part_namings-loop-part : goal.invariant-part_namings-loop-part
invariant-part_namings-loop-part l =
    l.namings ++ map (λ p. p.naming) (map look (drop l.part-index l.parts)) ≡ map (λ p. p.naming) (map look l.parts)
