use Rattle.sail_kinds.proofs.Firsts.{first_failure_append, first_is_least, none_failed}
use Rattle.sail_kinds.proofs.laws.first_failures_are_least.Goals as goal

pub returns-clause-least : goal.returns-clause-least
returns-clause-least c = λ es e h. first_is_least es e h

pub returns-clause-none : goal.returns-clause-none
returns-clause-none c = λ es h. none_failed es h

pub returns-clause-append : goal.returns-clause-append
returns-clause-append c = λ kept es fs. first_failure_append kept es fs
