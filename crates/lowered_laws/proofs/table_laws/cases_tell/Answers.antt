use Rattle.lowered_laws.specs.TableLaws.{CasesTell}
use Rattle.lowered_laws.proofs.TablesTelling.{all_tell}
use Rattle.lowered_laws.proofs.table_laws.cases_tell.Goals as goal

tell : CasesTell
tell types known instances nodes alone all plain = all_tell types known instances nodes alone all plain

pub returns : goal.returns
returns c = record { tell = tell }
