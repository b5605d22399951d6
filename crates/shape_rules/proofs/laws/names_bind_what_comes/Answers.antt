use Rattle.shape_rules.proofs.Trees.{wildcards_take_all, names_bind}
use Rattle.shape_rules.proofs.laws.names_bind_what_comes.Goals as goal

pub returns-clause-wildcards : goal.returns-clause-wildcards
returns-clause-wildcards c = wildcards_take_all

pub returns-clause-names : goal.returns-clause-names
returns-clause-names c = names_bind
