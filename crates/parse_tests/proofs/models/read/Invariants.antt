use Rattle.std.specs.Prelude.{All}
use Rattle.sail_grammar.specs.Joined.{HaveTexts}
use Rattle.parse_tests.proofs.models.read.Given as goal

-- all files so far have texts
abbrev pub invariant-loop-text : goal.invariant-loop-text
invariant-loop-text l = All HaveTexts l.files.items
