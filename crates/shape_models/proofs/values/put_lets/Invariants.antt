use Rattle.std.proofs.Common.{◌≡◌, ◌+◌, ℕ, List, drop}
use Rattle.std.specs.HashMap.{get_by_text}
use Rattle.shape_models.specs.Held.{lets_over}
use Rattle.shape_models.proofs.values.put_lets.Given as goal

abbrev pub invariant-loop-local : goal.invariant-loop-local
invariant-loop-local l = record {
  count : l.place ≡ l.count + l.local-index;
  values : (name : List ℕ) → lets_over l.place (drop l.local-index l.locals) (get_by_text l.values name) name
      ≡ lets_over l.count l.locals (get_by_text l.initial.values name) name;
}
