use Rattle.std.proofs.Common.{◌≡◌, drop, map}
use Rattle.sail_types.specs.Named.{fields as fields_of}
use Rattle.shape_rules.specs.Values.{fields_named}
use Rattle.shape_walks.specs.Trees.{field_value}
use Rattle.shape_forms.proofs.FieldNames.{named_behind}
use Rattle.shape_forms.proofs.structs.fields_named.Given as goal

abbrev pub invariant-loop-field : goal.invariant-loop-field
invariant-loop-field l =
    named_behind l.places l.shapes (fields_named (map field_value (drop l.field-index l.fields)) (fields_of l.types l.place))
    ≡ fields_named (map field_value l.fields) (fields_of l.types l.place)
