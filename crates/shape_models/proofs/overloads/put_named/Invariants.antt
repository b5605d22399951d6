use Rattle.std.proofs.Common.{◌≡◌, ℕ, List}
use Rattle.std.specs.HashMap.{get_by_text}
use Rattle.shape_models.specs.Held.{or_named}
use Rattle.shape_models.proofs.overloads.put_named.Given as goal

abbrev pub invariant-loop-overload : goal.invariant-loop-overload
invariant-loop-overload l = (name : List ℕ) → get_by_text l.values name ≡ or_named (get_by_text l.initial.values name) l.yielded name
