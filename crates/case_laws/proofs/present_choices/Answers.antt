use Rattle.case_laws.proofs.Present as present
use Rattle.case_laws.proofs.present_choices.Goals as goal

pub returns : goal.returns
returns c = present.present_choices
