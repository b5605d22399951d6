use Rattle.std.proofs.Common.{◌≡◌, ◌&&◌, drop, is_some, bytes_eq}
use Rattle.std.specs.HashMap.{get_by}
use Rattle.sail_kinds.specs.Failures.{first_failure}
use Rattle.sail_kinds.specs.Repeated.{clashes, clashes_behind, is_none_of}
use Rattle.sail_kinds.proofs.repeated.note_repeated.Given as goal

abbrev pub invariant-loop-name : goal.invariant-loop-name
invariant-loop-name l = record {
  failures : first_failure l.first.error (clashes_behind (λ name. is_some (get_by (λ key. bytes_eq name key.now) l.before)) (drop l.name-index l.names))
      ≡ first_failure l.fn.first.error (clashes l.names);
  none : (l.is_none && is_none_of (clashes_behind (λ name. is_some (get_by (λ key. bytes_eq name key.now) l.before)) (drop l.name-index l.names)))
      ≡ is_none_of (clashes l.names);
}
