-- The tables of an accepted text are such as forms take a model, and its bodies and openings pass their tests.
use Rattle.std.proofs.Common.{◌≡◌, ℕ, true, List, [], refl, subst}
use Rattle.sail_types.specs.Numbers.{Positive}
use Rattle.sail_types.specs.declared.table.Types.{Types}
use Rattle.sail_core.specs.declared.model.CoreModel.{CoreModel}
use Rattle.pattern_leaves.specs.declared.names.TopLevel.{TopLevel}
use Rattle.constraint_gen.specs.Models.{around_of}
use Rattle.known_texts.proofs.Failures.{nothing_fails}
use Rattle.known_texts.proofs.Openings.{openings_known}
use Rattle.known_texts.proofs.Parts.{tuples_have_parts}
use Rattle.text_progress.specs.Laws.{core_of}
use Rattle.hanging_sizes.specs.Hanging.{payloads_alone}
use Rattle.soundness_steps.specs.Works.{Coverage, Setting, nobody}
use Rattle.soundness_values.specs.Named.{TypesNarrow}
use Rattle.sail_soundness.specs.Whole.{ModelStands}
use Rattle.soundness_calls.specs.Events.{checks_of}
use Rattle.whole_runs.specs.Initials.{pure_setting}
use Rattle.whole_runs.specs.Never.{setting_in}
use Rattle.safe_models.specs.ModelLaws.{ModelKnown}
use Rattle.safe_models.specs.OpeningTests.{openings_once}
use Rattle.safe_models.proofs.LetsOnce.{all_once}
use Rattle.safe_models.proofs.AcceptedFit.{accepted as accepted_fit}
use Rattle.safe_models.proofs.AcceptedOpenings.{accepted as openings_pass}
use Rattle.safe_models.proofs.Models.{tested}
use Rattle.safe_models.proofs.PureValues.{types_kept}
use Rattle.safe_models.proofs.Openings.{tested as openings_right}
use Rattle.safe_models.proofs.FoundModels.{models_stand}
use Rattle.safe_models.specs.TextLaws.{FittingTextsStand}

-- ---- a model of which nothing is called or thrown stands where the whole one does

pure_stands : (m : CoreModel) (past : Positive) (hart : ℕ) (covered : Coverage) (names : List TopLevel)
    → ModelStands (setting_in m past hart covered) nobody → ModelStands (pure_setting m past covered [] names) nobody
pure_stands m past hart covered names model =
    let same : (around_of m).types ≡ m.types = types_kept m [] m.openings in
    record {
      registers = λ i r e. absurd (cc);
      places = λ i f e. absurd (cc);
      narrow = subst (λ (types : Types). TypesNarrow types) same model.narrow;
      fits = record {
        alone = subst (λ (types : Types). payloads_alone types ≡ true) same model.fits.alone;
        mappings = λ d n e. absurd (cc);
      };
    }

-- ---- put together

pub fitting : FittingTextsStand
fitting text end cycle accepted kept written past hart covered k rank =
    let m : CoreModel = core_of text cycle in
    let set : Setting = setting_in m past hart covered in
    let nowhere : ModelStands set nobody = models_stand text end cycle accepted kept written set refl nobody in
    let known : ModelKnown set =
    record {
      tables = λ x is. models_stand text end cycle accepted kept written set refl x;
      nowhere = nowhere;
    } in
    let stands = tested m past hart covered k rank (accepted_fit text end cycle accepted kept written) known in
    let once : openings_once m.openings ≡ true =
    all_once text (openings_known text (nothing_fails text end accepted) written (tuples_have_parts text written)) cycle in
    record {
      openings = openings_right m past covered (checks_of m k) (λ names. pure_stands m past hart covered names nowhere)
          (openings_pass text end cycle accepted kept written) once;
      functions = stands.0;
      directions = stands.1;
    }
