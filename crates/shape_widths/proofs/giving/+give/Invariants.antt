use Rattle.std.proofs.Common.{◌≡◌, ◌+◌, ◌*◌, ◌++◌, map, drop, None}
use Rattle.std.specs.Option.{option_copied}
use denote.Param.Weighed.{most}
use Rattle.sail_syntax.proofs.patterns.Pat.TheLaws.{the_size}
use Rattle.sail_syntax.proofs.patterns.Joined.TheLaws.{the_size as further_size}
use Rattle.shape_rules.specs.Around.{setting_of}
use Rattle.shape_rules.specs.Sides.{gives, each_gives, each_of}
use Rattle.shape_widths.specs.Known.{given_of}
use Rattle.shape_widths.specs.Parts.{further_gives}
use Rattle.shape_widths.proofs.giving.+give.Given as goal

abbrev pub decreases-gives : goal.decreases-gives
decreases-gives l = 32 * the_size l.pattern.now

abbrev pub decreases-give_typed : goal.decreases-give_typed
decreases-give_typed l = 32 * the_size l.part.now + 1

abbrev pub decreases-give_each : goal.decreases-give_each
decreases-give_each l = 32 * most the_size l.parts.now + 1

abbrev pub decreases-give_same : goal.decreases-give_same
decreases-give_same l = 32 * most the_size l.parts.now + 1

abbrev pub decreases-give_one : goal.decreases-give_one
decreases-give_one l = 32 * most the_size l.parts.now + 2

abbrev pub decreases-give_group : goal.decreases-give_group
decreases-give_group l = 32 * most the_size l.parts.now + 3

abbrev pub decreases-give_mapping : goal.decreases-give_mapping
decreases-give_mapping l = 32 * most the_size l.parts.now + 3

abbrev pub decreases-give_callee : goal.decreases-give_callee
decreases-give_callee l = 32 * most the_size l.parts.now + 4

abbrev pub decreases-give_construct : goal.decreases-give_construct
decreases-give_construct l = 32 * most the_size l.parts.now + 5

abbrev pub decreases-give_further : goal.decreases-give_further
decreases-give_further l = 32 * most further_size l.more.now + 1

abbrev pub invariant-give_each-loop-index : goal.invariant-give_each-loop-index
invariant-give_each-loop-index l = map given_of l.list ++ each_gives (map gives (drop l.index l.parts)) (setting_of l.around) (drop l.index l.types) ≡ map given_of l.fn.list ++ each_gives (map gives l.parts) (setting_of l.around) l.types

abbrev pub invariant-give_same-loop-part : goal.invariant-give_same-loop-part
invariant-give_same-loop-part l = map given_of l.list ++ each_of (map gives (drop l.part-index l.parts)) (setting_of l.around) (option_copied l.typ) ≡ map given_of l.fn.list ++ each_of (map gives l.parts) (setting_of l.around) (option_copied l.typ)

abbrev pub invariant-give_further-loop-next : goal.invariant-give_further-loop-next
invariant-give_further-loop-next l = map given_of l.list ++ each_of (map further_gives (drop l.next-index l.more)) (setting_of l.around) None ≡ map given_of l.fn.list ++ each_of (map further_gives l.more) (setting_of l.around) None
