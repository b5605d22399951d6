use Rattle.lowered_cycles.specs.Laws.{CyclesAgree}
use Rattle.lowered_cycles.proofs.Agreeing.{agrees}
use Rattle.lowered_cycles.proofs.cycles_agree.Goals as goal

agree : CyclesAgree
agree x c active h p i a f place k act leads e = agrees x c active h p i a f place k act leads e

pub returns : goal.returns
returns c = record { agree = agree }
