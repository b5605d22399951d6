use Rattle.std.proofs.Common.{◌≤◌, length}
use Rattle.sail_grammar.specs.RowName as N
use Rattle.sail_grammar.specs.Form.{Row}
use Rattle.sail_grammar.proofs.Steps.{Onward}
use Rattle.sail_parse_forms.specs.Behind as B
use Rattle.sail_parse_forms.proofs.grammar.Grammar.cases_tail.Given as goal

-- what is read from here on is read from the start on
abbrev pub invariant-cases : goal.invariant-cases
invariant-cases g l = record {
  onward : Onward (Row (N.CasesTail l.mode)) B.cases_behind l.tokens l.fn.list l.rest l.list;
  fewer : length l.rest ≤ length l.tokens;
}

abbrev pub decreases-cases : goal.decreases-cases
decreases-cases g l = length l.rest
