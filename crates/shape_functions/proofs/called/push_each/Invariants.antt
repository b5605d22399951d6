use Rattle.std.proofs.Common.{◌≡◌, ◌++◌, List, map, take, drop}
use Rattle.sail_base.specs.declared.place.Place.{Place}
use Rattle.sail_syntax.specs.declared.definitions.Def.{Def}
use Rattle.sail_tables.specs.Tabled.{AreTables}
use Rattle.shape_rules.specs.Findings.{first_failure}
use Rattle.shape_rules.specs.Written.{joined}
use Rattle.shape_models.specs.Sources.{tabled_by}
use Rattle.shape_clauses.specs.Functions.{called_faults, functions_of, cycle_in}
use Rattle.shape_functions.specs.Parts.{held_setting}
use Rattle.shape_functions.proofs.called.push_each.Given as goal

abbrev pub invariant-loop-definition : goal.invariant-loop-definition
invariant-loop-definition l = record {
  functions : (text : List Def) (end : Place) → AreTables text end l.tables
      → l.functions ≡ l.initial.functions ++ joined (map (functions_of (tabled_by l.source) l.source.definitions.now
      (held_setting l.source l.meanings) (cycle_in l.tables text)) (take l.definition-index l.definitions));
  failures : first_failure l.first.error (joined (map (called_faults (tabled_by l.source)
      (held_setting l.source l.meanings)) (drop l.definition-index l.definitions)))
      ≡ first_failure l.initial.first.error (joined (map (called_faults (tabled_by l.source) (held_setting l.source l.meanings)) l.definitions));
}
