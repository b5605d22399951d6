use Rattle.lowered_laws.specs.TableLaws.{NotedCasesTell}
use Rattle.lowered_laws.proofs.TablesTelling.{noted_tell}
use Rattle.lowered_laws.proofs.table_laws.noted_cases_tell.Goals as goal

tell : NotedCasesTell
tell types known instances nodes alone all = noted_tell types known instances nodes alone all

pub returns : goal.returns
returns c = record { tell = tell }
