use Rattle.std.proofs.Common.{◌≡◌, ◌++◌, length}
use Rattle.std.specs.Vec.Iter.{into_iter_items, into_iter_len}
use Rattle.monomorph.specs.Found.{instances_in}
use Rattle.monomorph.proofs.found.instances_in.Given as goal

-- the rest makes up all of them
abbrev pub invariant-loop-one : goal.invariant-loop-one
invariant-loop-one l = record {
  known : into_iter_len l.one-iterator ≡ length (into_iter_items l.one-iterator);
  made : l.made ++ instances_in (into_iter_items l.one-iterator) ≡ instances_in l.fn.found;
}
