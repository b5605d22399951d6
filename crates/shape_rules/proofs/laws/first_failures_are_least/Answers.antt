use Rattle.shape_rules.proofs.Firsts.{first_failure_append, first_is_least, none_failed}
use Rattle.shape_rules.proofs.laws.first_failures_are_least.Goals as goal

pub returns-clause-least : goal.returns-clause-least
returns-clause-least c = λ es e h. first_is_least es e h

pub returns-clause-there : goal.returns-clause-there
returns-clause-there c = λ es h. none_failed es h

pub returns-clause-kept : goal.returns-clause-kept
returns-clause-kept c = λ kept es fs. first_failure_append kept es fs
