use Rattle.std.proofs.Common.{◌≡◌, ◌++◌, drop, map}
use Rattle.value_indices.specs.Walking.{got, run, seen}
use Rattle.expression_notes.specs.Patterns.{look}
use Rattle.function_notes.specs.Functions.{parameters_opened}
use Rattle.function_notes.proofs.clauses.open_parameters.Given as goal

abbrev pub invariant-loop-typ : goal.invariant-loop-typ
invariant-loop-typ l = record {
  value : l.made ++ got (parameters_opened (map look l.left) l.numbers (drop l.typ-index l.types)) (seen l.walking)
      ≡ got (parameters_opened (map look l.patterns) l.numbers l.types) (seen l.initial.walking);
  walked : run (parameters_opened (map look l.left) l.numbers (drop l.typ-index l.types)) (seen l.walking)
      ≡ run (parameters_opened (map look l.patterns) l.numbers l.types) (seen l.initial.walking);
}
