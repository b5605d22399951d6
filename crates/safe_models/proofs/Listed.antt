-- A list that is found covers what is read of the core of a text, so the text is never stuck.
use Rattle.std.proofs.Common.{List}
use Rattle.scattered.specs.Gathered.{gathered}
use Rattle.sail_syntax.specs.declared.definitions.Def.{Def}
use Rattle.sail_core.specs.declared.model.CoreModel.{CoreModel}
use Rattle.size_notes.specs.Bodies.{bodies_of}
use Rattle.monomorph.specs.Instances.{model_of}
use Rattle.monomorph.specs.Lasts.{Model}
use Rattle.covering_laws.specs.Covered.{all_found}
use Rattle.covering_laws.specs.Listed.{ListsCover}
use Rattle.covering_laws.specs.Plain.{found_covered, plain_checks}
use Rattle.covering_laws.proofs.Across.{listed_of}
use Rattle.known_texts.specs.Written.{IsWritten}
use Rattle.text_progress.specs.Laws.{core_of}
use Rattle.text_progress.specs.ParsedTexts.{ParsedTextsAreWritten}
use Rattle.sail_compile.specs.Checked.{no_cycle}
use Rattle.sail_compile.specs.Models.{end_of_all, joined}
use Rattle.safe_models.specs.Listed.{AcceptedTextsRunSafely, FoundListsCover, ListedModelsRunSafely}
use Rattle.safe_models.specs.Safe.{AcceptedModelsRunSafely}
use Rattle.safe_models.specs.Ways.{WaysOfTextsFall}
use Rattle.safe_models.proofs.Apart.{texts_apart}
use Rattle.safe_models.proofs.Covered.{texts_paired}
use Rattle.safe_models.proofs.GivenKinds.{texts_give_kinds}

pub found_lists : ListsCover → FoundListsCover
found_lists are m rank all numbers kinds paired found falls past count hart low =
    are m past hart rank all numbers kinds paired found falls

pub listed_safe : FoundListsCover → WaysOfTextsFall → ParsedTextsAreWritten → AcceptedModelsRunSafely → ListedModelsRunSafely
listed_safe cover fall written safe texts made accepted list found past count some few =
    let text : List Def = gathered accepted.definitions in
    let m : CoreModel = core_of text no_cycle in
    let model : Model = model_of m (bodies_of m) in
    let as_written : IsWritten text = (written (joined texts accepted.tokens) accepted.definitions accepted.parsed).1 in
    let ranks = fall text (end_of_all texts) no_cycle accepted.tables accepted.shapes as_written in
    safe texts made accepted past (found_covered (all_found model)) (plain_checks model) ranks.0 count some few
    (cover m ranks.0 (all_found model) (texts_apart text no_cycle) (texts_give_kinds text no_cycle) (texts_paired text no_cycle)
    (listed_of model list found).0 ranks.1 past count)

pub accepted_safe : ListedModelsRunSafely → AcceptedTextsRunSafely
accepted_safe safe texts made accepted past count some few = safe texts made accepted made.instances accepted.listed past count some few
