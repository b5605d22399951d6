use Rattle.std.proofs.Common.{◌≡◌, ◌++◌}
use Rattle.sail_gen.specs.Model.{cases_text}
use Rattle.sail_gen.proofs.model.push_cases.Given as goal

-- the cases so far
abbrev pub invariant-loop-number : goal.invariant-loop-number
invariant-loop-number l = l.out.items ≡ l.fn.out.items ++ cases_text l.number
