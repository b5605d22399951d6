use Rattle.std.proofs.Common.{sym, ◌∙◌}
use Rattle.value_indices.specs.Walking.{seen}
use Rattle.pattern_leaves.proofs.Walked.{wrong_run}
use Rattle.pattern_notes.proofs.several.end_wrong.Goals as goal

pub returns-clause-walked : goal.returns-clause-walked
returns-clause-walked c = c.in_ok-wrong.ensures ∙ sym (wrong_run c.args.place (seen c.args.walking.now))
