use Rattle.std.proofs.Common.{◌≡◌, ◌≤◌, ◌++◌, drop, map, length}
use Rattle.linear.specs.Choices.{joined}
use Rattle.linear.specs.Cases.{product, alternatives}
use Rattle.linear.proofs.listing.+listing.Given as goal

abbrev pub invariant-list_all-loop-left : goal.invariant-list_all-loop-left
invariant-list_all-loop-left l = record {
  within : l.left ≤ length l.parts;
  same : l.all ≡ product (map (alternatives l.cut) (drop l.left l.parts));
}

abbrev pub decreases-list_all-loop-left : goal.decreases-list_all-loop-left
decreases-list_all-loop-left l = l.left

abbrev pub invariant-list_any-loop-part : goal.invariant-list_any-loop-part
invariant-list_any-loop-part l = l.all ++ joined (map (alternatives l.cut) (drop l.part-index l.parts)) ≡ joined (map (alternatives l.cut) l.parts)
