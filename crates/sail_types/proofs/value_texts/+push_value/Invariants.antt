use Rattle.std.proofs.Common.{◌≡◌, ◌==◌, drop, map, ◌++◌}
use Rattle.std.specs.Prelude.{codes}
use Rattle.sail_types.specs.Texts.{value_text, rest_joined, listed, fields_text}
use Rattle.sail_types.proofs.value_texts.+push_value.Given as goal

abbrev pub invariant-push_values-loop-value : goal.invariant-push_values-loop-value
invariant-push_values-loop-value l =
    l.out.items ++ rest_joined l.first (codes ", ") (map (value_text l.types) (drop l.value-index l.values))
    ≡ l.initial.out.items ++ listed (map (value_text l.types) l.values)

abbrev pub invariant-push_fields-loop-value : goal.invariant-push_fields-loop-value
invariant-push_fields-loop-value l = record {
  here : l.index ≡ l.value-index;
  texts : l.out.items ++ rest_joined (l.index == 0) (codes ", ") (fields_text (map (value_text l.types) (drop l.index l.values)) (drop l.index l.fields))
      ≡ l.initial.out.items ++ listed (fields_text (map (value_text l.types) l.values) l.fields);
}
