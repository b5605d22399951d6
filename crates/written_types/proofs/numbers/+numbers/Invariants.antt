use Rattle.std.proofs.Common.{◌≡◌, ◌++◌, take, map}
use Rattle.sail_kinds.specs.Scopes.{within}
use Rattle.shape_rules.specs.Written.{piece, pieces_numbers}
use Rattle.written_types.proofs.numbers.+numbers.Given as goal

abbrev pub invariant-push_each-loop-part : goal.invariant-push_each-loop-part
invariant-push_each-loop-part l = l.numbers ≡ l.fn.numbers ++ pieces_numbers (map piece (take l.part-index l.parts)) (within l.scope)
