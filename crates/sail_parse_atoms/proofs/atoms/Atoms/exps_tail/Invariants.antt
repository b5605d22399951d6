use Rattle.std.proofs.Common.{◌≤◌, length}
use Rattle.sail_grammar.specs.RowName as N
use Rattle.sail_grammar.specs.Form.{Row}
use Rattle.sail_grammar.proofs.Steps.{Onward}
use Rattle.sail_parse_atoms.specs.Behind as B
use Rattle.sail_parse_atoms.proofs.atoms.Atoms.exps_tail.Given as goal

-- what is read from here on is read from the start on
abbrev pub invariant-exps : goal.invariant-exps
invariant-exps g l = record {
  onward : Onward (Row (N.ExpsTail l.mode)) B.exps_behind l.tokens l.fn.list l.rest l.list;
  fewer : length l.rest ≤ length l.tokens;
}

abbrev pub decreases-exps : goal.decreases-exps
decreases-exps g l = length l.rest
