use Rattle.std.proofs.Common.{◌≡◌, drop}
use Rattle.std.specs.List.{list_all}
use Rattle.sail_declared.specs.Wanting.{is_annotated}
use Rattle.sail_declared.proofs.typed.are_annotated.Given as goal

abbrev pub invariant-loop-pattern : goal.invariant-loop-pattern
invariant-loop-pattern l = list_all is_annotated (drop l.pattern-index l.patterns) ≡ list_all is_annotated l.patterns
