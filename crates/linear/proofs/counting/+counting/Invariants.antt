use Rattle.std.proofs.Common.{◌≡◌, ◌<◌, ◌^◌, ◌*◌, ◌+◌, drop, map, length}
use Rattle.linear.specs.Choices.{joined}
use Rattle.linear.specs.Cases.{product, alternatives, capped}
use Rattle.linear.proofs.counting.+counting.Given as goal

abbrev pub invariant-count_all-loop-part : goal.invariant-count_all-loop-part
invariant-count_all-loop-part l = record {
  small : l.found < 2 ^ 64;
  same : capped (l.found * length (product (map (alternatives l.cut) (drop l.part-index l.parts)))) ≡ capped (length (product (map (alternatives
      l.cut) l.parts)));
}

abbrev pub invariant-count_any-loop-part : goal.invariant-count_any-loop-part
invariant-count_any-loop-part l = record {
  small : l.found < 2 ^ 64;
  same : capped (l.found + length (joined (map (alternatives l.cut) (drop l.part-index l.parts)))) ≡ capped (length (joined (map (alternatives l.cut)
      l.parts)));
}
