-- Whole tables cover the core of an accepted text, so runs in which values carry the types that they tell are never stuck.
use Rattle.std.proofs.Common.{List}
use Rattle.scattered.specs.Gathered.{gathered}
use Rattle.sail_syntax.specs.declared.definitions.Def.{Def}
use Rattle.sail_core.specs.declared.model.CoreModel.{CoreModel}
use Rattle.checked_meaning.specs.Checked.{Checks}
use Rattle.sized_meanings.specs.Sized.{checks_by}
use Rattle.soundness_steps.specs.Works.{Coverage}
use Rattle.covering_laws.specs.Tables.{TablesCover, covered_by_tables}
use Rattle.known_texts.specs.Accepted.{NothingFails, NothingOfItFails}
use Rattle.known_texts.specs.KnownTexts.{DefinitionsAreSigned}
use Rattle.known_texts.specs.Written.{IsWritten}
use Rattle.text_progress.specs.Laws.{core_of}
use Rattle.text_progress.specs.ParsedTexts.{ParsedTextsAreWritten}
use Rattle.sail_compile.specs.Checked.{no_cycle}
use Rattle.sail_compile.specs.Models.{end_of_all, joined}
use Rattle.sail_compile.specs.laws.Holding.{AcceptedHold}
use Rattle.whole_runs.specs.Safe.{CoversThroughout, IsFoundThroughout, ModelsRunSafely, StandsThroughout}
use Rattle.safe_models.specs.Tables.{TabledCoresGo, TabledTextsGo, WholeTablesCover}
use Rattle.safe_models.specs.TextLaws.{FittingTextsStand}
use Rattle.safe_models.specs.Ways.{WaysOfTextsFall}
use Rattle.safe_models.proofs.Accepted.{accepted_held}
use Rattle.safe_models.proofs.Apart.{texts_apart}
use Rattle.safe_models.proofs.Covered.{texts_paired}
use Rattle.safe_models.proofs.Found.{found_throughout}

pub whole_tables : TablesCover → WholeTablesCover
whole_tables are given m rank c numbers paired whole falls past count hart low = are given m past hart rank c numbers paired whole.found whole.whole falls

pub tabled_go : WholeTablesCover → WaysOfTextsFall → ParsedTextsAreWritten → NothingOfItFails → DefinitionsAreSigned → FittingTextsStand
    → ModelsRunSafely → TabledCoresGo
tabled_go cover fall written nothing sign stand models given texts made accepted cycle c held whole past count some few =
    let text : List Def = gathered accepted.definitions in
    let m : CoreModel = core_of text cycle in
    let k : Checks = checks_by given m c in
    let covered : Coverage = covered_by_tables m c in
    let clear : NothingFails text = nothing text (end_of_all texts) accepted.tables in
    let as_written : IsWritten text = (written (joined texts accepted.tokens) accepted.definitions accepted.parsed).1 in
    let ranks = fall text (end_of_all texts) cycle accepted.tables accepted.shapes as_written in
    let found : IsFoundThroughout m past covered count =
    found_throughout text cycle (sign text (end_of_all texts) accepted.tables as_written) clear.step clear.reset past covered count few in
    let stands : StandsThroughout m past covered k ranks.0 count =
    λ hart low. stand text (end_of_all texts) cycle accepted.tables accepted.shapes as_written past hart covered k ranks.0 in
    let covers : CoversThroughout m past covered k ranks.0 count =
    cover given m ranks.0 c (texts_apart text cycle) (texts_paired text cycle) whole ranks.1 past count in
    let safe = models m past covered k ranks.0 count some held found covers stands in
    (λ ends. (safe.0 ends).0, safe.2)

pub texts_go : AcceptedHold → TabledCoresGo → TabledTextsGo
texts_go hold cores given texts made accepted c whole past count some few =
    cores given texts made accepted no_cycle c (accepted_held hold texts made accepted) whole past count some few
