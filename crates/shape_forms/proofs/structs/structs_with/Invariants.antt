use Rattle.std.proofs.Common.{◌≡◌, ◌++◌, drop, map}
use Rattle.shape_rules.specs.Around.{setting_of}
use Rattle.shape_rules.specs.Values.{structs_from}
use Rattle.shape_walks.specs.Trees.{field_value}
use Rattle.shape_forms.proofs.structs.structs_with.Given as goal

abbrev pub invariant-loop-definition : goal.invariant-loop-definition
invariant-loop-definition l = record {
  place : l.place ≡ l.definition-index;
  rest : l.places ++ structs_from (setting_of l.around) (map field_value l.fields) l.place
      (drop l.definition-index (setting_of l.around).types.definitions)
      ≡ structs_from (setting_of l.around) (map field_value l.fields) 0 (setting_of l.around).types.definitions;
}
