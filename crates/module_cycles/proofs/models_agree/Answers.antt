use Rattle.lowered_cycles.specs.Laws.{CyclesAgree}
use Rattle.module_cycles.specs.Laws.{ModelsAgree}
use Rattle.module_cycles.proofs.Models.{stands}
use Rattle.module_cycles.proofs.models_agree.Goals as goal

agree : CyclesAgree → ModelsAgree
agree law core sized m x low of = law x (stands core sized m x low of)

pub returns : goal.returns
returns c = record { agree = agree c.cycles_agree.ensures.agree }
