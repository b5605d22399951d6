use Rattle.std.proofs.Common.{◌≡◌, drop, map}
use Rattle.sail_types.specs.Readings.{behind, together}
use Rattle.type_arguments.specs.Moved.{moved_term}
use Rattle.type_arguments.proofs.moved.+moved_num.Given as goal

abbrev pub invariant-moved_terms-loop-term : goal.invariant-moved_terms-loop-term
invariant-moved_terms-loop-term l =
    behind l.made (together (map (moved_term l.depth) (drop l.term-index l.terms)))
    ≡ together (map (moved_term l.depth) l.terms)
