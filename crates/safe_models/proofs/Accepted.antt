-- An accepted text and its core have the same registers; and what the program checked of the core is that its obligations hold.
use Rattle.std.proofs.Common.{◌≡◌, sym, refl, subst, ap, ◌++◌, ℕ, List, [], ◌∷◌, map, Option, Some, None, Ok, Err, Result}
use Rattle.sail_types.specs.declared.types.Typ.{Typ}
use Rattle.sail_syntax.specs.declared.definitions.Def.{Def}
use Rattle.sail_syntax.specs.declared.definitions.Def.TheVariants as D
use Rattle.scattered.specs.Gathered.{gathered}
use Rattle.sail_core.specs.declared.model.CoreModel.{CoreModel}
use Rattle.farkas.specs.declared.certificate.Cert.{Cert}
use Rattle.obligations.specs.declared.obligation.Obligation.{Obligation}
use Rattle.constraint_gen.specs.Obligations.{obligations}
use Rattle.bidir_check.specs.declared.error.CheckError.{CheckError}
use Rattle.bidir_check.specs.Certification.{Certification}
use Rattle.bidir_check.specs.Checking as B
use Rattle.bidir_check.specs.laws.Holding as Bidir
use Rattle.shape_rules.specs.Scopes.{Setting}
use Rattle.shape_rules.specs.Written.{joined, typ_in}
use Rattle.shape_models.specs.Models.{setting_of}
use Rattle.shape_meanings.specs.Models.{register_shapes}
use Rattle.shapes.specs.Failures.{all_lets, own_in}
use Rattle.shapes.specs.Resolved as R
use Rattle.shapes.specs.Tabled.{tabled_of}
use Rattle.known_texts.specs.Texts as T
use Rattle.known_texts.specs.Accepted.{NothingFails, NothingOfItFails}
use Rattle.known_texts.specs.KnownTexts.{DefinitionsAreSigned}
use Rattle.known_texts.specs.Written.{IsWritten}
use Rattle.text_progress.specs.ParsedTexts.{ParsedTextsAreWritten}
use Rattle.goal_laws.specs.Goals.{AllHold}
use Rattle.text_progress.specs.Laws.{core_of}
use Rattle.sail_compile.specs.Checked.{no_cycle}
use Rattle.sail_compile.specs.Models as Models
use Rattle.sail_compile.specs.Models.{end_of_all}
use Rattle.sail_compile.specs.declared.models.Accepted.{Accepted}
use Rattle.whole_runs.specs.Safe.{IsFoundThroughout, ModelsRunSafely, StandsThroughout}
use Rattle.safe_models.specs.TextLaws.{FittingTextsStand}
use Rattle.sail_compile.specs.laws.Holding.{AcceptedHold}
use Rattle.accepted_models.specs.Models.{AcceptedModelsMeanText}
use Rattle.safe_models.specs.Safe.{AcceptedCoresRunSafely, AcceptedModelsRunSafely, Cycles, IsOfText, TextsRunSafely, meant_of}
use Rattle.safe_models.proofs.Found.{found_throughout}

-- ---- registers

register_same : (name : List ℕ) (o : Option Typ) → T.register_if name o ≡ R.register_if name o
register_same name None = refl
register_same name (Some t) = refl

module _ (text : List Def) (cycles : Cycles) where
  abbrev setting : Setting
  setting = setting_of (tabled_of text) (own_in (tabled_of text) text) text (all_lets (tabled_of text) text) []

  one_same : (d : Def) → T.registers_by (tabled_of text) d ≡ R.register_of setting d
  one_same (D.Register place name typ initial) = register_same name.text (typ_in setting.within typ)
  one_same d = refl

  all_same : (ds : List Def) → joined (map (T.registers_by (tabled_of text)) ds) ≡ joined (map (R.register_of setting) ds)
  all_same [] = refl
  all_same (d ∷ ds) = λ j. one_same d j ++ all_same ds j

  pub of_text : IsOfText (meant_of text cycles) (core_of text cycles)
  of_text = record { types = refl; registers = λ j. register_shapes (all_same text j) }

-- ---- obligations

pub as_held : (os : List Obligation) → Bidir.AllHold os → AllHold os
as_held [] h = tt
as_held (o ∷ os) h = (h.0, as_held os h.1)

ok_same : (x y : Certification) → ◌≡◌ {A = Result Certification CheckError} (Ok x) (Ok y) → x ≡ y
ok_same x y k = cc

no_ok : (x : CheckError) (y : Certification) → ◌≡◌ {A = Result Certification CheckError} (Err x) (Ok y) → ⊥
no_ok x y k = cc

-- those that were checked are those of the core
checked_are : (core : CoreModel) (os : List Obligation) (r : Result (List Cert) CheckError) (c : Certification) → B.certified_by core os r ≡ Ok c
    → c.obligations ≡ os
checked_are core os (Ok certs) c e =
    ap (λ (x : Certification). x.obligations) (sym (ok_same (record { core = core; obligations = os; certificates = certs }) c e))
checked_are core os (Err error) c e = absurd (no_ok error c e)

-- ---- put together

pub cores_safe : AcceptedModelsMeanText → NothingOfItFails → ParsedTextsAreWritten → DefinitionsAreSigned → FittingTextsStand
    → ModelsRunSafely → TextsRunSafely → AcceptedCoresRunSafely
cores_safe mean nothing written sign stand models texts_safe texts made accepted cycles held past covered k rank count some few covers entry schedule
    there state ok =
    let text : List Def = gathered accepted.definitions in
    let m : CoreModel = core_of text cycles in
    let clear : NothingFails text = nothing text (end_of_all texts) accepted.tables in
    let as_written : IsWritten text = (written (Models.joined texts accepted.tokens) accepted.definitions accepted.parsed).1 in
    let found : IsFoundThroughout m past covered count =
    found_throughout text cycles (sign text (end_of_all texts) accepted.tables as_written)
    clear.step clear.reset past covered count few in
    let stands : StandsThroughout m past covered k rank count =
    λ hart low. stand text (end_of_all texts) cycles accepted.tables accepted.shapes as_written past hart covered k rank in
    texts_safe (meant_of text cycles) m past count (of_text text cycles) (mean texts made accepted cycles) entry schedule state ok
    ((models m past covered k rank count some held found covers stands).1 entry schedule there state ok)

pub accepted_held : AcceptedHold → (texts : List (List ℕ)) (made : Accepted) (accepted : Models.AreAccepted texts made)
    → AllHold (obligations (core_of (gathered accepted.definitions) no_cycle))
accepted_held hold texts made accepted =
    let m : CoreModel = core_of (gathered accepted.definitions) no_cycle in
    as_held (obligations m)
    (subst Bidir.AllHold (checked_are m (obligations m) (B.checked (obligations m)) made.certified accepted.closed) (hold texts made accepted))

pub accepted_safe : AcceptedHold → AcceptedCoresRunSafely → AcceptedModelsRunSafely
accepted_safe hold cores texts made accepted = cores texts made accepted no_cycle (accepted_held hold texts made accepted)
