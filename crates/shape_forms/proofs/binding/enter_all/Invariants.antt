use Rattle.std.proofs.Common.{◌≡◌, length}
use Rattle.std.specs.Vec.Iter.{into_iter_items, into_iter_len}
use Rattle.shape_rules.specs.Scopes.{under}
use Rattle.shape_forms.proofs.binding.enter_all.Given as goal

-- what is left to enter makes up what there was to enter
abbrev pub invariant-loop-local : goal.invariant-loop-local
invariant-loop-local l = record {
  known : into_iter_len l.local-iterator ≡ length (into_iter_items l.local-iterator);
  entered : under (into_iter_items l.local-iterator) l.locals ≡ under l.fn.binds l.initial.locals;
}
