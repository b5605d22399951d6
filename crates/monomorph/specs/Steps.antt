-- What is read of the steps of a walk, as code reads them.
use Rattle.std.specs.Prelude.{List, Ok}
use Rattle.value_indices.specs.declared.notes.Fact.{Fact}
use Rattle.value_indices.specs.declared.notes.Step.{Step}
use Rattle.value_indices.specs.declared.notes.Step.TheVariants as S
use Rattle.size_splits.specs.Reading.{named_in}
use Rattle.monomorph.specs.declared.found.Found.{Found}
use Rattle.monomorph.specs.Found.{Answer}
use Rattle.monomorph.specs.Reading.{Inside, read_made, read_counted_call, read_counted_way}

-- what a step notes, under what is in force there; behind it stand these
abbrev pub read_step : Inside → List Fact → Step → List Step → List Found → Answer
read_step r facts (S.Sizes place made) behind = read_made r facts place made (named_in behind)
read_step r facts (S.Calls place k operands callee js qs) behind = read_counted_call r facts place operands callee js qs
read_step r facts (S.Converts d) behind = read_counted_way r facts d
read_step r facts step behind = Ok
