use Rattle.std.proofs.Common.{◌≡◌, ◌+◌, ◌*◌, ◌++◌, max, length, map, drop, replicate}
use denote.Param.Weighed.{most}
use Rattle.sail_syntax.proofs.patterns.Pat.TheLaws.{the_size}
use Rattle.sail_syntax.proofs.patterns.Joined.TheLaws.{the_size as further_size}
use Rattle.sail_types.specs.declared.shapes.Shape.TheVariants as V
use Rattle.shape_rules.specs.Around.{setting_of}
use Rattle.shape_rules.specs.Findings.{first_failure}
use Rattle.shape_rules.specs.Patterns.{piece, each_looked}
use Rattle.shape_widths.specs.Known.{widths_of}
use Rattle.shape_widths.specs.Parts.{further}
use Rattle.shape_patterns.proofs.+look.Given as goal

abbrev pub decreases-looking::look : goal.decreases-looking::look
decreases-looking::look l = 32 * the_size l.pattern.now

abbrev pub decreases-groups::look_at : goal.decreases-groups::look_at
decreases-groups::look_at l = 32 * the_size l.pattern.now + 1

abbrev pub decreases-groups::look_each : goal.decreases-groups::look_each
decreases-groups::look_each l = 32 * most the_size l.parts.now + 2

abbrev pub decreases-groups::look_same : goal.decreases-groups::look_same
decreases-groups::look_same l = 32 * most the_size l.parts.now + 2

abbrev pub decreases-groups::look_pieces : goal.decreases-groups::look_pieces
decreases-groups::look_pieces l = 32 * most the_size l.parts.now + 3

abbrev pub decreases-looking::look_payload : goal.decreases-looking::look_payload
decreases-looking::look_payload l = 32 * most the_size l.parts.now + 4

abbrev pub decreases-looking::look_constructor : goal.decreases-looking::look_constructor
decreases-looking::look_constructor l = 32 * most the_size l.parts.now + 6

abbrev pub decreases-groups::look_tuple : goal.decreases-groups::look_tuple
decreases-groups::look_tuple l = 32 * most the_size l.parts.now + 3

abbrev pub decreases-looking::look_one : goal.decreases-looking::look_one
decreases-looking::look_one l = 32 * most the_size l.parts.now + 4

abbrev pub decreases-looking::look_counted : goal.decreases-looking::look_counted
decreases-looking::look_counted l = 32 * most the_size l.parts.now + 5

abbrev pub decreases-looking::look_maps : goal.decreases-looking::look_maps
decreases-looking::look_maps l = 32 * most the_size l.parts.now + 5

abbrev pub decreases-looking::look_mapping : goal.decreases-looking::look_mapping
decreases-looking::look_mapping l = 32 * most the_size l.parts.now + 6

abbrev pub decreases-looking::look_direction : goal.decreases-looking::look_direction
decreases-looking::look_direction l = 32 * most the_size l.parts.now + 6

abbrev pub decreases-looking::look_callee : goal.decreases-looking::look_callee
decreases-looking::look_callee l = 32 * most the_size l.parts.now + 8

abbrev pub decreases-looking::look_construct : goal.decreases-looking::look_construct
decreases-looking::look_construct l = 32 * most the_size l.parts.now + 9

abbrev pub decreases-groups::look_vector : goal.decreases-groups::look_vector
decreases-groups::look_vector l = 32 * most the_size l.parts.now + 3

abbrev pub decreases-groups::look_list : goal.decreases-groups::look_list
decreases-groups::look_list l = 32 * most the_size l.parts.now + 3

abbrev pub decreases-groups::look_group : goal.decreases-groups::look_group
decreases-groups::look_group l = 32 * most the_size l.parts.now + 5

abbrev pub decreases-groups::look_concat : goal.decreases-groups::look_concat
decreases-groups::look_concat l = 32 * max (the_size l.head.now) (max (the_size l.second.now) (most further_size l.more.now)) + 3

abbrev pub decreases-groups::look_cut : goal.decreases-groups::look_cut
decreases-groups::look_cut l = 32 * max (the_size l.head.now) (max (the_size l.second.now) (most further_size l.more.now)) + 2

abbrev pub decreases-groups::look_further : goal.decreases-groups::look_further
decreases-groups::look_further l = 32 * most further_size l.more.now + 1

abbrev pub decreases-groups::look_cons : goal.decreases-groups::look_cons
decreases-groups::look_cons l = 32 * max (the_size l.head.now) (the_size l.tail.now) + 1

abbrev pub decreases-groups::look_as : goal.decreases-groups::look_as
decreases-groups::look_as l = 32 * the_size l.part.now + 1

abbrev pub decreases-groups::look_typed : goal.decreases-groups::look_typed
decreases-groups::look_typed l = 32 * the_size l.part.now + 1

abbrev pub invariant-groups::look_each-loop-index : goal.invariant-groups::look_each-loop-index
invariant-groups::look_each-loop-index l = record {
  patterns : l.patterns ++ (each_looked (map piece (drop l.index l.parts)) (setting_of l.around) (widths_of l.widths) (drop l.index l.subjects)).patterns
      ≡ (each_looked (map piece l.parts) (setting_of l.around) (widths_of l.widths) l.subjects).patterns;
  binds : l.binds ++ (each_looked (map piece (drop l.index l.parts)) (setting_of l.around) (widths_of l.widths) (drop l.index l.subjects)).binds
      ≡ l.fn.binds ++ (each_looked (map piece l.parts) (setting_of l.around) (widths_of l.widths) l.subjects).binds;
  failures : first_failure l.first.error (each_looked (map piece (drop l.index l.parts)) (setting_of l.around) (widths_of l.widths)
      (drop l.index l.subjects)).faults ≡ first_failure l.fn.first.error (each_looked (map piece l.parts) (setting_of l.around)
      (widths_of l.widths) l.subjects).faults;
}

abbrev pub invariant-groups::look_same-loop-part : goal.invariant-groups::look_same-loop-part
invariant-groups::look_same-loop-part l = record {
  patterns : l.patterns ++ (each_looked (map piece (drop l.part-index l.parts)) (setting_of l.around) (widths_of l.widths) (replicate (length (map piece
      (drop l.part-index l.parts))) l.subject)).patterns ≡ (each_looked (map piece l.parts) (setting_of l.around) (widths_of l.widths) (replicate (length
      (map piece l.parts)) l.subject)).patterns;
  binds : l.binds ++ (each_looked (map piece (drop l.part-index l.parts)) (setting_of l.around) (widths_of l.widths) (replicate (length (map piece
      (drop l.part-index l.parts))) l.subject)).binds ≡ l.fn.binds ++ (each_looked (map piece l.parts) (setting_of l.around) (widths_of l.widths) (replicate
      (length (map piece l.parts)) l.subject)).binds;
  failures : first_failure l.first.error (each_looked (map piece (drop l.part-index l.parts)) (setting_of l.around) (widths_of l.widths) (replicate (length
      (map piece (drop l.part-index l.parts))) l.subject)).faults
      ≡ first_failure l.fn.first.error (each_looked (map piece l.parts) (setting_of l.around) (widths_of l.widths) (replicate (length
      (map piece l.parts)) l.subject)).faults;
}

abbrev pub invariant-groups::look_further-loop-next : goal.invariant-groups::look_further-loop-next
invariant-groups::look_further-loop-next l = record {
  patterns : l.patterns ++ (each_looked (map further (drop l.next-index l.more)) (setting_of l.around) (widths_of l.widths) (replicate (length (map further
      (drop l.next-index l.more))) V.Bits)).patterns ≡ l.fn.patterns ++ (each_looked (map further l.more) (setting_of l.around) (widths_of l.widths)
      (replicate (length (map further l.more)) V.Bits)).patterns;
  binds : l.binds ++ (each_looked (map further (drop l.next-index l.more)) (setting_of l.around) (widths_of l.widths) (replicate (length (map further
      (drop l.next-index l.more))) V.Bits)).binds ≡ l.fn.binds ++ (each_looked (map further l.more) (setting_of l.around) (widths_of l.widths) (replicate
      (length (map further l.more)) V.Bits)).binds;
  failures : first_failure l.first.error (each_looked (map further (drop l.next-index l.more)) (setting_of l.around) (widths_of l.widths) (replicate (length
      (map further (drop l.next-index l.more))) V.Bits)).faults
      ≡ first_failure l.fn.first.error (each_looked (map further l.more) (setting_of l.around) (widths_of l.widths) (replicate (length
      (map further l.more)) V.Bits)).faults;
}
