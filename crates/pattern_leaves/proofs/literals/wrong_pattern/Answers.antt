use Rattle.std.proofs.Common.{sym, ◌∙◌}
use Rattle.value_indices.specs.Walking.{seen}
use Rattle.pattern_leaves.proofs.Walked.{wrong_got, wrong_run}
use Rattle.pattern_leaves.proofs.literals.wrong_pattern.Goals as goal

pub returns-clause-found : goal.returns-clause-found
returns-clause-found c = c.new.ensures ∙ sym (wrong_got c.args.place (seen c.args.walking.now))

pub returns-clause-walked : goal.returns-clause-walked
returns-clause-walked c = c.in_ok-wrong.ensures ∙ sym (wrong_run c.args.place (seen c.args.walking.now))
