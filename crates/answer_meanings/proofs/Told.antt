-- What is answered to words by what the program's engine means is what is answered by the texts' own meaning.
use Rattle.std.proofs.Common.{◌≡◌, ◌∙◌, ◌<◌, ◌≤◌, ◌+◌, ◌%◌, ◌++◌, ℕ, zero, suc, Bool, true, false, List, [], ◌∷◌, length, map}
use Rattle.std.proofs.Common.{refl, sym, ap, subst, inl, inr, if◌then◌else◌}
use Rattle.std.specs.Prelude.{All, Option, Some, None, Result, Ok, Err, ◌==◌, is_some, slice_index, option_and_then}
use Rattle.std.specs.List.{range_with_len}
use Rattle.std.proofs.Math.Nat.{mod-lt}
use Rattle.std.proofs.lemmas.Bool.{and_parts}
use Rattle.std.proofs.lemmas.List.Elements.{All-get_or}
use Rattle.clap.specs.Words.{Row, fault_of, subcommand_of}
use Rattle.sail_base.specs.declared.elf_refusal.ElfRefusal.{ElfRefusal}
use Rattle.sail_outside.specs.Files.{Files}
use Rattle.elf_load.specs.Placed.{place_refusal}
use Rattle.elf_load.specs.Reading.{elf_refusal, image_of}
use Rattle.elf_load.specs.declared.image.Image.{Image}
use Rattle.sail_words.specs.Line.{IsAllowed, IsWithinLimits, command_of, line_of}
use Rattle.sail_words.specs.declared.command.Command.{Command}
use Rattle.sail_words.specs.declared.command.Command.TheVariants as C
use Rattle.sail_words.specs.declared.run.Run.{Run}
use Rattle.sail_words.specs.declared.run.Setup.{Setup}
use Rattle.sail_words.specs.declared.synth.Synth.{Synth}
use Rattle.sail_words.specs.Program.{program}
use Rattle.sail_words.proofs.Limits.{IfOk-allowed}
use Rattle.sail_types.specs.Numbers.{Positive}
use Rattle.sail_types.specs.declared.table.Types.{Types}
use Rattle.sail_types.specs.declared.types.Typ.{Typ}
use Rattle.sail_types.specs.declared.values.Value.{Value}
use Rattle.sail_types.specs.Zero.{zero_of}
use Rattle.sail_syntax.specs.declared.definitions.Def.{Def}
use Rattle.sail_syntax.specs.declared.definitions.Def.TheVariants as D
use Rattle.scattered.specs.Gathered.{gathered}
use Rattle.model_state.specs.Folds.{Meaning}
use Rattle.model_state.specs.RunState.{fresh}
use Rattle.model_state.specs.declared.state.Register.{Register}
use Rattle.harts.specs.Schedule.{schedule}
use Rattle.sail_core.specs.declared.model.CoreModel.{CoreModel}
use Rattle.sail_meaning.specs.Start.{text_meaning}
use Rattle.shape_rules.specs.Scopes as Scopes
use Rattle.shape_rules.specs.Written.{joined, typ_in}
use Rattle.shape_models.specs.Models.{setting_of}
use Rattle.shapes.specs.Failures.{all_lets, own_in}
use Rattle.shapes.specs.Resolved as R
use Rattle.shapes.specs.Tabled.{tabled_of}
use Rattle.known_texts.specs.Texts as T
use Rattle.text_progress.specs.Laws.{core_of}
use Rattle.bidir_check.specs.declared.error.CheckError.{CheckError}
use Rattle.bidir_check.specs.Certification.{Certification}
use Rattle.bidir_check.specs.Checking as B
use Rattle.obligations.specs.declared.obligation.Obligation.{Obligation}
use Rattle.farkas.specs.declared.certificate.Cert.{Cert}
use Rattle.constraint_gen.specs.Obligations.{obligations}
use Rattle.size_laws.proofs.Said.{one}
use Rattle.sail_compile.specs.Checked.{no_cycle}
use Rattle.sail_compile.specs.Meanings.{JibLeaves, jib}
use Rattle.sail_compile.specs.Models.{AreAccepted}
use Rattle.sail_compile.specs.Zeros.{has_zero, have_zeros}
use Rattle.sail_compile.specs.declared.models.Accepted.{Accepted}
use Rattle.accepted_models.specs.Starts.{HaveZeros}
use Rattle.whole_runs.specs.Runs.{AreThere}
use Rattle.whole_runs.specs.Safe.{IsFit}
use Rattle.safe_models.specs.Safe.{Cycles, FreshStatesFit, meant_of}
use Rattle.module_meanings.specs.Laws.{EnginesMeanTexts, MeansText}
use Rattle.sail_top.specs.Answer.{AnswersCommand, AnswersEnd, AnswersFiles, AnswersLine, AnswersRun, Judges, answer_for, machine_of, image_unless}
use Rattle.sail_top.specs.Answer.{accepted_text, run_unless}
use Rattle.sail_top.specs.Seeded.{seeded_front, seeded_image, seeded_setup, seeded_texts}
use Rattle.sail_top.specs.Reading.{ReadEnd, absent, contents_at, long, reading, wanted_by, whole}
use Rattle.sail_top.specs.Run.{ram, report_of, run_text, started_run}
use Rattle.sail_top.specs.declared.status.Answer.{Answer}
use Rattle.sail_top.specs.declared.status.Status.TheVariants as status
use Rattle.sail_top.proofs.SeededLemmas.{seeded_within}
use Rattle.answer_meanings.specs.Laws.{AnswersMeanTexts, BytesMeanTexts}
use Rattle.answer_meanings.specs.Source.{source}
use Rattle.answer_meanings.proofs.Ends.{end_same, safely}

-- ---- limits of what words ask for

-- harts of a schedule are there, since those of its order are
schedule_there : (count : ℕ) (order : List ℕ) → 0 < length order → All (λ hart. hart < count) order → (n first : ℕ)
    → AreThere count (map (λ event. slice_index order (event % length order)) (range_with_len first n))
schedule_there count order some all zero first = tt
schedule_there count order some all (suc n) first = (
  All-get_or (λ hart. hart < count) order (first % length order) 0 (mod-lt first some) all,
  schedule_there count order some all n (first + 1),
)

found : {A B : Type 0} (o : Option A) (f : A → Option B) (b : B) → option_and_then f o ≡ Some b → (a : A) × (f a ≡ Some b)
found None f b e = cc
found (Some a) f b e = (a, e)

line_there : {A : Type 0} (test : Bool) (o : Option A) (a : A) → (if test then o else None) ≡ Some a → o ≡ Some a
line_there true o a e = e
line_there false o a e = cc

-- what words ask for keeps to the limits
allowed : (words : List (List ℕ)) (command : Command) → line_of words ≡ Some command → IsAllowed command
allowed words command e =
    let after : List ℕ × List Row → Option Command = λ named. command_of named.0 named.1 in
    let parsed : Option (List ℕ × List Row) = subcommand_of program words in
    let there = found parsed after command (line_there (length (fault_of program words) == 0) (option_and_then after parsed) command e) in
    IfOk-allowed {E = Unit {0}} there.0.0 there.0.1 (Ok command) there.1

-- ---- registers of which each has a zero

zero_there : (o : Option Value) → is_some o ≡ true → (v : Value) × (o ≡ Some v)
zero_there None h = cc
zero_there (Some v) h = (v, refl)

no_register : {X : Type 0} (r : Register) → None ≡ Some r → X
no_register r e = cc

same_register : (r s : Register) → Some r ≡ Some s → r ≡ s
same_register r s e = cc

zeros_there : (types : Types) (rs : List Register) → have_zeros types rs ≡ true → HaveZeros types rs
zeros_there types [] h i register e = no_register register e
zeros_there types (r ∷ rs) h zero register e =
    subst (λ (s : Register). (v : Value) × (zero_of types s.typ ≡ Some v)) (same_register r register e)
    (zero_there (zero_of types r.typ) (and_parts (has_zero types r) (have_zeros types rs) h).0)
zeros_there types (r ∷ rs) h (suc i) register e = zeros_there types rs (and_parts (has_zero types r) (have_zeros types rs) h).1 i register e

-- ---- an accepted text

ok_same : (x y : Certification) → ◌≡◌ {A = Result Certification CheckError} (Ok x) (Ok y) → x ≡ y
ok_same x y e = cc

no_ok : (x : CheckError) (y : Certification) → ◌≡◌ {A = Result Certification CheckError} (Err x) (Ok y) → ⊥
no_ok x y e = cc

-- the core that was checked
core_checked : (core : CoreModel) (os : List Obligation) (r : Result (List Cert) CheckError) (c : Certification) → B.certified_by core os r ≡ Ok c
    → c.core ≡ core
core_checked core os (Ok certs) c e =
    ap (λ (x : Certification). x.core) (sym (ok_same (record { core = core; obligations = os; certificates = certs }) c e))
core_checked core os (Err error) c e = absurd (no_ok error c e)

register_same : (name : List ℕ) (o : Option Typ) → T.register_if name o ≡ R.register_if name o
register_same name None = refl
register_same name (Some t) = refl

module _ (text : List Def) where
  abbrev setting : Scopes.Setting
  setting = setting_of (tabled_of text) (own_in (tabled_of text) text) text (all_lets (tabled_of text) text) []

  one_same : (d : Def) → T.registers_by (tabled_of text) d ≡ R.register_of setting d
  one_same (D.Register place name typ initial) = register_same name.text (typ_in setting.within typ)
  one_same d = refl

  -- a text has the registers of its core
  registers_same : (ds : List Def) → joined (map (T.registers_by (tabled_of text)) ds) ≡ joined (map (R.register_of setting) ds)
  registers_same [] = refl
  registers_same (d ∷ ds) = λ j. one_same d j ++ registers_same ds j

module _ (texts : List (List ℕ)) (made : Accepted) (accepted : AreAccepted texts made) where
  abbrev text : List Def
  text = gathered accepted.definitions

  core_is : made.certified.core ≡ core_of text no_cycle
  core_is =
      core_checked (core_of text no_cycle) (obligations (core_of text no_cycle)) (B.checked (obligations (core_of text no_cycle))) made.certified
      accepted.closed

  own_registers : (cycle : Cycles) → (text_meaning (meant_of text cycle)).registers ≡ made.certified.core.registers
  own_registers cycle = registers_same text text ∙ sym (ap (λ (c : CoreModel). c.registers) core_is)

  -- in the state in which a run begins registers belong to their types
  begins_fit : FreshStatesFit → (cycle : Cycles) → HaveZeros (core_of text cycle).types (core_of text cycle).registers → (rs : List Register)
      → rs ≡ made.certified.core.registers → (past : Positive) (harts base : ℕ) (bytes : List ℕ)
      → IsFit (core_of text cycle) past harts (fresh made.certified.core.types rs harts base bytes)
  begins_fit fresh_fit cycle zeros rs is past harts base bytes =
      subst (λ (xs : List Register). IsFit (core_of text cycle) past harts (fresh made.certified.core.types xs harts base bytes)) (sym is)
      (subst (λ (c : CoreModel). IsFit (core_of text cycle) past harts (fresh c.types c.registers harts base bytes)) (sym core_is)
      (fresh_fit (core_of text cycle) past zeros harts base bytes))

  -- ---- a run

  module _ (cycle : Cycles) (m : Meaning) (mean : (past : Positive) (count : ℕ) → 0 < count → count ≤ 8 → MeansText text cycle past count m)
      (registers : m.registers ≡ made.certified.core.registers) (fresh_fit : FreshStatesFit)
      (zeros : HaveZeros (core_of text cycle).types (core_of text cycle).registers) where
    abbrev n : Meaning
    n = text_meaning (meant_of text cycle)

    ends_same : (setup : Setup) → IsWithinLimits setup → (entry : ℕ) (bytes : List ℕ)
        → run_text setup made.certified.core.types m entry bytes ≡ run_text setup made.certified.core.types n entry bytes
    ends_same setup within entry bytes =
        let events : List ℕ = schedule setup.order setup.steps in
        ap (report_of bytes)
        (end_same text cycle one setup.harts m (mean one setup.harts within.harts.0 within.harts.1) entry events
        (schedule_there setup.harts setup.order within.order.0 within.order.1 setup.steps 0)
        (fresh made.certified.core.types m.registers setup.harts setup.ram_base bytes)
        (begins_fit fresh_fit cycle zeros m.registers registers one setup.harts setup.ram_base bytes)
        ∙ ap (λ (rs : List Register). started_run n entry events (fresh made.certified.core.types rs setup.harts setup.ram_base bytes))
        (registers ∙ sym (own_registers cycle)))

    module _ (front : List ℕ) (setup : Setup) (within : IsWithinLimits setup) where
      abbrev types : Types
      types = made.certified.core.types

      abbrev done_with : List ℕ → Answer
      done_with bytes = record { status = status.Done; bytes = front ++ bytes }

      placed_same : (image : Image) (o : Option ElfRefusal) → run_unless front setup types m image o ≡ run_unless front setup types n image o
      placed_same image (Some refusal) = refl
      placed_same image None =
          ap done_with (ends_same setup within image.entry (ram setup image))

      image_same : (image : Image) (o : Option ElfRefusal) → image_unless front setup types m image o ≡ image_unless front setup types n image o
      image_same image (Some refusal) = refl
      image_same image None = placed_same image (place_refusal image setup.ram_base setup.ram_size)

      file_same : (file : List ℕ) → answer_for front setup types (machine_of made) m file ≡ answer_for front setup types (machine_of made) n file
      file_same file = image_same (image_of file) (elf_refusal file (machine_of made))

-- ---- answers

module _ (engines : EnginesMeanTexts) (fresh_fit : FreshStatesFit) where
  -- that of a run
  run_same : (texts : List (List ℕ)) (made : Accepted) (accepted : AreAccepted texts made) (front : List ℕ) (setup : Setup) → IsWithinLimits setup
      → (file : List ℕ) (answer : Answer) → AnswersRun jib front setup file made (gathered accepted.definitions) answer
      → AnswersRun (source JibLeaves) front setup file made (gathered accepted.definitions) answer
  run_same texts made accepted front setup within file answer (inl left) = inl left
  run_same texts made accepted front setup within file answer (inr (m, code, registers, is)) =
      let cycle : Cycles = code.numbered.cycle in
      let mean = engines texts made accepted m code in
      let have = subst (λ (c : CoreModel). HaveZeros c.types c.registers) code.numbered.is (zeros_there code.core.types code.core.registers code.zeros) in
      inr (
        text_meaning (meant_of (gathered accepted.definitions) cycle),
        record {
          cycle = cycle;
          numbered = code.numbered.numbered;
          is = refl;
          safe = λ past count some few. safely (gathered accepted.definitions) cycle past count m (mean past count some few);
        },
        own_registers texts made accepted cycle,
        is ∙ file_same texts made accepted cycle m mean registers fresh_fit have front setup within file,
      )

  module _ (front : Accepted → List ℕ) (setup : Setup) (within : IsWithinLimits setup) (file : List ℕ) where
    judged_same : (texts : List (List ℕ)) (answer : Answer) → Judges (λ made. AnswersRun jib (front made) setup file made) texts answer
        → Judges (λ made. AnswersRun (source JibLeaves) (front made) setup file made) texts answer
    judged_same texts answer (inl refused) = inl refused
    judged_same texts answer (inr (made, accepted, a)) = inr (made, accepted, run_same texts made accepted (front made) setup within file answer a)

  files_same : (command : Command) → IsAllowed command → (files : List (List ℕ)) (answer : Answer) → AnswersFiles jib command files answer
      → AnswersFiles (source JibLeaves) command files answer
  files_same (C.Run run) allowed files answer (texts, file, are, a) =
      (texts, file, are, judged_same (λ made. []) run.setup allowed.1 file texts answer a)
  files_same (C.Check models) allowed files answer a = a
  files_same (C.Certs models) allowed files answer a = a
  files_same (C.Synth synth) allowed files answer a =
      judged_same (λ made. seeded_front synth (accepted_text made)) (seeded_setup synth.size) (seeded_within synth.size) (seeded_image synth)
      (seeded_texts synth) answer a

  end_answered : (command : Command) → IsAllowed command → (end : ReadEnd) (answer : Answer) → AnswersEnd jib command end answer
      → AnswersEnd (source JibLeaves) command end answer
  end_answered command allowed (absent number name) answer a = a
  end_answered command allowed (long number name limit) answer a = a
  end_answered command allowed (whole files) answer a = files_same command allowed files answer a

  command_same : (command : Command) → IsAllowed command → (held : Option Files) (answer : Answer) → AnswersCommand jib command held answer
      → AnswersCommand (source JibLeaves) command held answer
  command_same command allowed (Some files) answer a =
      end_answered command allowed (reading 0 (wanted_by command) (contents_at files (wanted_by command))) answer a
  command_same command allowed None answer (contents, a) =
      (contents, end_answered command allowed (reading 0 (wanted_by command) contents) answer a)

  line_same : (line : Option Command) → ((command : Command) → line ≡ Some command → IsAllowed command) → (held : Option Files) (answer : Answer)
      → AnswersLine jib line held answer → AnswersLine (source JibLeaves) line held answer
  line_same None allowed held answer a = a
  line_same (Some command) allowed held answer a = command_same command (allowed command refl) held answer a

pub answers_mean : EnginesMeanTexts → FreshStatesFit → AnswersMeanTexts
answers_mean engines fresh_fit words held answer a =
    line_same engines fresh_fit (line_of words) (allowed words) held answer a

pub bytes_mean : AnswersMeanTexts → BytesMeanTexts
bytes_mean mean words held given now = (
  (λ ended a. (a.0, mean words held (record { status = ended; bytes = a.0 }) a.1, a.2)),
  (λ a. (a.0, mean words held a.0 a.1, a.2)),
)
