use Rattle.known_texts.proofs.NamesApart.{names_do_not_clash, operators_do_not_clash}
use Rattle.known_texts.proofs.meaning_laws.overloads_do_not_clash.Goals as goal

pub returns-clause-names : goal.returns-clause-names
returns-clause-names c = names_do_not_clash

pub returns-clause-operators : goal.returns-clause-operators
returns-clause-operators c = operators_do_not_clash
