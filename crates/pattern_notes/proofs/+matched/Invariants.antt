use Rattle.std.proofs.Common.{◌≡◌, ◌+◌, ◌*◌, ◌++◌, map, drop}
use denote.Param.Weighed.{most}
use Rattle.sail_core.proofs.patterns.Pattern.TheLaws.{the_size}
use Rattle.value_indices.specs.Walking.{got, run, seen}
use Rattle.pattern_notes.specs.Patterns.{look, each_match, items_met, each_met_never}
use Rattle.pattern_leaves.specs.Settings.{around_of}
use Rattle.pattern_notes.proofs.+matched.Given as goal

-- by depth; at one depth what calls the others stands above them
abbrev pub decreases-parts::match_pattern : goal.decreases-parts::match_pattern
decreases-parts::match_pattern l = 32 * the_size l.pattern.now

abbrev pub decreases-parts::match_form : goal.decreases-parts::match_form
decreases-parts::match_form l = 32 * most the_size l.parts.now + 20

abbrev pub decreases-parts::match_as : goal.decreases-parts::match_as
decreases-parts::match_as l = 32 * most the_size l.parts.now + 4

abbrev pub decreases-parts::match_typed : goal.decreases-parts::match_typed
decreases-parts::match_typed l = 32 * most the_size l.parts.now + 4

abbrev pub decreases-parts::match_maps : goal.decreases-parts::match_maps
decreases-parts::match_maps l = 32 * most the_size l.parts.now + 4

abbrev pub decreases-parts::match_sees : goal.decreases-parts::match_sees
decreases-parts::match_sees l = 32 * most the_size l.parts.now + 4

abbrev pub decreases-parts::match_annotated : goal.decreases-parts::match_annotated
decreases-parts::match_annotated l = 32 * the_size l.part.now + 1

abbrev pub decreases-parts::match_direction : goal.decreases-parts::match_direction
decreases-parts::match_direction l = 32 * the_size l.part.now + 2

abbrev pub decreases-parts::match_given : goal.decreases-parts::match_given
decreases-parts::match_given l = 32 * the_size l.part.now + 1

abbrev pub decreases-heads::match_opened : goal.decreases-heads::match_opened
decreases-heads::match_opened l = 32 * most the_size l.parts.now + 12

abbrev pub decreases-heads::match_head : goal.decreases-heads::match_head
decreases-heads::match_head l = 32 * most the_size l.parts.now + 11

abbrev pub decreases-heads::match_tuple : goal.decreases-heads::match_tuple
decreases-heads::match_tuple l = 32 * most the_size l.parts.now + 10

abbrev pub decreases-heads::match_union : goal.decreases-heads::match_union
decreases-heads::match_union l = 32 * most the_size l.parts.now + 10

abbrev pub decreases-heads::match_own : goal.decreases-heads::match_own
decreases-heads::match_own l = 32 * most the_size l.parts.now + 5

abbrev pub decreases-heads::match_items_of_vector : goal.decreases-heads::match_items_of_vector
decreases-heads::match_items_of_vector l = 32 * most the_size l.parts.now + 10

abbrev pub decreases-heads::match_list : goal.decreases-heads::match_list
decreases-heads::match_list l = 32 * most the_size l.parts.now + 10

abbrev pub decreases-heads::match_first : goal.decreases-heads::match_first
decreases-heads::match_first l = 32 * most the_size l.parts.now + 10

abbrev pub decreases-heads::match_bits : goal.decreases-heads::match_bits
decreases-heads::match_bits l = 32 * most the_size l.parts.now + 10

abbrev pub decreases-several::match_parts : goal.decreases-several::match_parts
decreases-several::match_parts l = 32 * most the_size l.parts.now + 3

abbrev pub decreases-several::match_counted : goal.decreases-several::match_counted
decreases-several::match_counted l = 32 * most the_size l.parts.now + 2

abbrev pub decreases-several::match_each : goal.decreases-several::match_each
decreases-several::match_each l = 32 * most the_size l.parts.now + 1

abbrev pub decreases-several::match_items : goal.decreases-several::match_items
decreases-several::match_items l = 32 * most the_size l.parts.now + 2

abbrev pub decreases-several::match_never : goal.decreases-several::match_never
decreases-several::match_never l = 32 * most the_size l.parts.now + 2

abbrev pub decreases-several::match_cons : goal.decreases-several::match_cons
decreases-several::match_cons l = 32 * most the_size l.parts.now + 2

abbrev pub decreases-several::match_constructor : goal.decreases-several::match_constructor
decreases-several::match_constructor l = 32 * most the_size l.parts.now + 4

abbrev pub decreases-several::match_vector : goal.decreases-several::match_vector
decreases-several::match_vector l = 32 * most the_size l.parts.now + 3

abbrev pub decreases-several::match_cut : goal.decreases-several::match_cut
decreases-several::match_cut l = 32 * most the_size l.parts.now + 6

abbrev pub decreases-several::match_cut_parts : goal.decreases-several::match_cut_parts
decreases-several::match_cut_parts l = 32 * most the_size l.parts.now + 4

abbrev pub decreases-parts::match_maps_to : goal.decreases-parts::match_maps_to
decreases-parts::match_maps_to l = 32 * the_size l.part.now + 3

abbrev pub decreases-parts::match_sees_to : goal.decreases-parts::match_sees_to
decreases-parts::match_sees_to l = 32 * the_size l.part.now + 3

abbrev pub invariant-several::match_each-loop-index : goal.invariant-several::match_each-loop-index
invariant-several::match_each-loop-index l =
    let rest = each_match l.place (map look (drop l.index l.parts)) (around_of l.around) l.how (drop l.index l.values) in
    let all = each_match l.place (map look l.parts) (around_of l.around) l.how l.values in
    record {
      found : l.found ++ got rest (seen l.walking) ≡ got all (seen l.fn.walking);
      walked : run rest (seen l.walking) ≡ run all (seen l.fn.walking);
    }

abbrev pub invariant-several::match_items-loop-part : goal.invariant-several::match_items-loop-part
invariant-several::match_items-loop-part l =
    let rest = items_met l.place (map look (drop l.part-index l.parts)) (around_of l.around) l.how l.item in
    let all = items_met l.place (map look l.parts) (around_of l.around) l.how l.item in
    record {
      found : l.found ++ got rest (seen l.walking) ≡ got all (seen l.fn.walking);
      walked : run rest (seen l.walking) ≡ run all (seen l.fn.walking);
    }

abbrev pub invariant-several::match_never-loop-part : goal.invariant-several::match_never-loop-part
invariant-several::match_never-loop-part l =
    let rest = each_met_never (map look (drop l.part-index l.parts)) (around_of l.around) l.how in
    let all = each_met_never (map look l.parts) (around_of l.around) l.how in
    record {
      found : l.found ++ got rest (seen l.walking) ≡ got all (seen l.fn.walking);
      walked : run rest (seen l.walking) ≡ run all (seen l.fn.walking);
    }
