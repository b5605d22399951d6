use Rattle.std.proofs.Common.{◌≡◌, drop, map}
use Rattle.shape_joins.specs.Joins.{any_of}
use Rattle.shape_rules.specs.Calls.{has_never}
use Rattle.shape_calls.proofs.callees.+has_never.Given as goal

abbrev pub invariant-have_never-loop-part : goal.invariant-have_never-loop-part
invariant-have_never-loop-part l = any_of (map has_never (drop l.part-index l.parts)) ≡ any_of (map has_never l.parts)
