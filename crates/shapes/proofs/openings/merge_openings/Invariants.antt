use Rattle.std.proofs.Common.{◌≡◌, ◌++◌, drop}
use Rattle.shapes.specs.Resolved.{in_text_order}
use Rattle.shapes.proofs.openings.merge_openings.Given as goal

abbrev pub invariant-loop-definition : goal.invariant-loop-definition
invariant-loop-definition l =
    l.openings ++ in_text_order (drop l.definition-index l.definitions) l.lets_left.items l.initials_left.items
    ≡ in_text_order l.definitions l.fn.lets l.fn.initials
