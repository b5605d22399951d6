use Rattle.std.proofs.Common.{◌≡◌, drop}
use Rattle.shape_rules.specs.Targets.{field_named}
use Rattle.shape_calls.proofs.Fields.{further}
use Rattle.shape_calls.proofs.targets.field_named.Given as goal

abbrev pub invariant-loop-field : goal.invariant-loop-field
invariant-loop-field l = record {
  place : l.place ≡ l.field-index;
  rest : further l.place (field_named l.name (drop l.field-index l.fields)) ≡ field_named l.name l.fields;
}
