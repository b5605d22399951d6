use Rattle.std.proofs.Common.{◌≡◌, [], length}
use Rattle.std.specs.Vec.Iter.{into_iter_items, into_iter_len}
use Rattle.shape_rules.specs.Scopes.{under}
use Rattle.shape_clauses.proofs.clauses.locals_under.Given as goal

-- what is left to enter makes up what there was to enter
abbrev pub invariant-loop-bound : goal.invariant-loop-bound
invariant-loop-bound l = record {
  known : into_iter_len l.bound-iterator ≡ length (into_iter_items l.bound-iterator);
  entered : under (into_iter_items l.bound-iterator) l.locals ≡ under l.fn.binds [];
}
