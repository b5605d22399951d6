-- A list that is tested covers what is read of the core of a text, so the text is never stuck.
use Rattle.std.proofs.Common.{ℕ, List, []}
use Rattle.std.specs.Prelude.{Option}
use Rattle.scattered.specs.Gathered.{gathered}
use Rattle.sail_syntax.specs.declared.definitions.Def.{Def}
use Rattle.sail_core.specs.declared.model.CoreModel.{CoreModel}
use Rattle.sail_core.specs.declared.model.Direction.{Direction}
use Rattle.met_notes.specs.Covers.{DirectionsPaired}
use Rattle.covering_laws.specs.Covered.{ModelsAreRead, checks_given, covered_by}
use Rattle.shapes.specs.Tabled.{tabled_of}
use Rattle.known_texts.specs.Written.{IsWritten}
use Rattle.text_progress.specs.Laws.{core_of}
use Rattle.text_progress.specs.ParsedTexts.{ParsedTextsAreWritten}
use Rattle.sail_compile.specs.Checked.{no_cycle}
use Rattle.sail_compile.specs.Models.{end_of_all, joined}
use Rattle.safe_models.specs.Safe.{AcceptedModelsRunSafely}
use Rattle.safe_models.specs.Tested.{TestedListsCover, TestedModelsRunSafely}
use Rattle.safe_models.specs.Ways.{WaysOfTextsFall}
use Rattle.safe_models.proofs.Apart.{texts_apart}
use Rattle.safe_models.proofs.Functions.{setting_at}
use Rattle.safe_models.proofs.GivenKinds.{texts_give_kinds}
use Rattle.safe_models.proofs.Sides.{side_of, text_pairs}

pub lists_cover : ModelsAreRead → TestedListsCover
lists_cover are m rank c numbers kinds paired h falls past count hart low =
    are m past hart rank c numbers kinds paired h.found h.tested falls

-- directions of a text's core stand in pairs
pub texts_paired : (text : List Def) (cycle : List ℕ → Option ℕ) → DirectionsPaired (core_of text cycle)
texts_paired text cycle d n e =
    let directions : List Direction = (core_of text cycle).directions in
    side_of directions (text_pairs (tabled_of text) (setting_at text []) text) d n e

pub tested_safe : TestedListsCover → WaysOfTextsFall → ParsedTextsAreWritten → AcceptedModelsRunSafely → TestedModelsRunSafely
tested_safe cover fall written safe texts made accepted c h past count some few =
    let text : List Def = gathered accepted.definitions in
    let m : CoreModel = core_of text no_cycle in
    let as_written : IsWritten text = (written (joined texts accepted.tokens) accepted.definitions accepted.parsed).1 in
    let ranks = fall text (end_of_all texts) no_cycle accepted.tables accepted.shapes as_written in
    safe texts made accepted past (covered_by m c) (checks_given m c) ranks.0 count some few
    (cover m ranks.0 c (texts_apart text no_cycle) (texts_give_kinds text no_cycle) (texts_paired text no_cycle) h ranks.1 past count)
