use Rattle.std.proofs.Common.{◌≡◌, drop, map, length}
use Rattle.std.specs.List.{list_all}
use Rattle.sail_types.specs.Named.{field_types}
use Rattle.sail_fits.specs.parts.Heads.{listed, part_shape}
use Rattle.sail_types.specs.Shapes.{each_fits, fits, shapes_under}
use Rattle.sail_fits.proofs.fitting.+fits.Given as goal

abbrev pub invariant-all_fit-loop-value : goal.invariant-all_fit-loop-value
invariant-all_fit-loop-value l =
    list_all (λ f. f (part_shape l.part)) (map (fits l.types) (drop l.value-index l.values))
    ≡ list_all (λ f. f (part_shape l.part)) (map (fits l.types) l.values)

abbrev pub invariant-shapes_fit-loop-value : goal.invariant-shapes_fit-loop-value
invariant-shapes_fit-loop-value l = record {
  here : l.index ≡ l.value-index;
  lengths : length l.values ≡ length l.shapes;
  rest : each_fits (map (fits l.types) (drop l.index l.values)) (drop l.index l.shapes) ≡ each_fits (map (fits l.types) l.values) l.shapes;
}

abbrev pub invariant-types_fit-loop-value : goal.invariant-types_fit-loop-value
invariant-types_fit-loop-value l = record {
  here : l.index ≡ l.value-index;
  lengths : length l.values ≡ length l.parts;
  rest : each_fits (map (fits l.types) (drop l.index l.values)) (shapes_under (listed l.known) (drop l.index l.parts))
      ≡ each_fits (map (fits l.types) l.values) (shapes_under (listed l.known) l.parts);
}

abbrev pub invariant-fields_fit-loop-value : goal.invariant-fields_fit-loop-value
invariant-fields_fit-loop-value l = record {
  here : l.index ≡ l.value-index;
  lengths : length l.values ≡ length l.fields;
  rest : each_fits (map (fits l.types) (drop l.index l.values)) (shapes_under (listed l.arguments) (field_types (drop l.index l.fields)))
      ≡ each_fits (map (fits l.types) l.values) (shapes_under (listed l.arguments) (field_types l.fields));
}
