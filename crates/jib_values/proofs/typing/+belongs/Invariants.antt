use Rattle.std.proofs.Common.{◌≡◌, drop, map, length}
use Rattle.std.specs.List.{list_all}
use Rattle.jib.specs.Values.{has, each_has}
use Rattle.jib_values.proofs.typing.+belongs.Given as goal

abbrev pub invariant-all_belong-loop-value : goal.invariant-all_belong-loop-value
invariant-all_belong-loop-value l =
    list_all (λ f. f l.typ) (map (has l.types) (drop l.value-index l.values)) ≡ list_all (λ f. f l.typ) (map (has l.types) l.values)

abbrev pub invariant-each_belongs-loop-value : goal.invariant-each_belongs-loop-value
invariant-each_belongs-loop-value l = record {
  here : l.index ≡ l.value-index;
  lengths : length l.values ≡ length l.inside;
  rest : each_has (map (has l.types) (drop l.index l.values)) (drop l.index l.inside) ≡ each_has (map (has l.types) l.values) l.inside;
}
