use Rattle.std.proofs.Common.{◌≡◌, suc, ◌++◌, drop}
use Rattle.obligations.specs.Texts.{cases_text}
use Rattle.obligations.proofs.texts.push_cases.Given as goal

abbrev pub invariant-loop-place : goal.invariant-loop-place
invariant-loop-place l = l.out.items ++ cases_text l.names (suc l.place) (drop l.place l.cases) ≡ l.fn.out.items ++ cases_text l.names 1 l.cases
