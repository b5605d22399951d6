use Rattle.std.proofs.Common.{◌≡◌, drop}
use Rattle.lowered_steps.specs.Noting.{is_any_noting}
use Rattle.lowered_steps.proofs.notes.+is_noting.Given as goal

abbrev pub invariant-gives_any-loop-at : goal.invariant-gives_any-loop-at
invariant-gives_any-loop-at l = is_any_noting (drop l.at l.parts) (drop l.at l.types) ≡ is_any_noting l.parts l.types
