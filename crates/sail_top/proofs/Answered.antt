-- Words have an answer over all files that are told, if tokens are decided, and accepted texts are where they are run.
use Rattle.std.proofs.Common.{ℕ, ◌+◌, List, [], ◌∷◌, ◌++◌, length, map, nat_le, ◌≡◌, Option, Some, None, refl, subst, inl, inr, append_assoc}
use Rattle.std.specs.Prelude.{Result, Ok, Err}
use Rattle.std.proofs.lemmas.Bool.{cases_Bool}
use Rattle.sail_outside.specs.Files.{Files}
use Rattle.sail_words.specs.Line.{line_of}
use Rattle.sail_words.specs.declared.command.Command.{Command}
use Rattle.sail_words.specs.declared.command.Command.TheVariants as C
use Rattle.sail_words.specs.declared.run.Run.{Run}
use Rattle.sail_words.specs.declared.run.Setup.{Setup}
use Rattle.sail_words.specs.declared.synth.Synth.{Synth}
use Rattle.bidir_check.specs.declared.error.CheckError.{CheckError}
use Rattle.bidir_check.specs.Certification.{Certification}
use Rattle.sail_grammar.specs.Model.{IsModel}
use Rattle.sail_lex.specs.declared.token.Token.{Token}
use Rattle.sail_syntax.specs.declared.definitions.Def.{Def}
use Rattle.scattered.specs.Gathered.{gathered}
use Rattle.scattered.specs.Refused.{refusal as why_ungathered}
use Rattle.sail_kinds.specs.declared.error.TableError.{TableError}
use Rattle.sail_tables.specs.Refused.{IsFirstFailure, IsAccepted}
use Rattle.shape_rules.specs.declared.error.ShapeError.{ShapeError}
use Rattle.scattered.specs.declared.error.ScatterError.{ScatterError}
use Rattle.model_tokens.specs.Files.{AreLexed}
use Rattle.model_tokens.proofs.OneAnswer.{answered}
use Rattle.bidir_check.specs.Printed.{certificates_text}
use Rattle.sail_compile.proofs.TableLemmas.{failure_of, has_failure}
use Rattle.sail_compile.specs.Meanings.{jib}
use Rattle.sail_compile.specs.Models.{AreAccepted, joined, end_of_all, unlexed, unparsed, ungathered, untabled, unshaped, unclosed, unsized}
use Rattle.monomorph.specs.declared.error.MonoError.{MonoError}
use Rattle.sized_nodes.specs.declared.trees.Instance.{Instance}
use Rattle.sail_compile.specs.Checked.{checked, instances_of}
use Rattle.sail_compile.specs.Refusals.{outside, token_refusal, parse_refusal, gather_refusal, table_refusal, check_refusal, size_refusal}
use Rattle.sail_compile.specs.Shaped.{why_unshaped, shape_refusal_in}
use Rattle.sail_top.specs.laws.OneAnswer.{AreAnswered, AreDecided, HasAnswer, MeansOrLeaves}
use Rattle.sail_top.specs.Answer.{Judges, RunsFiles, AnswersEnd, AnswersLine, IsAnswer}
use Rattle.sail_top.specs.Answer.{AnswersRun, AnswersAccepted, AnswersCheck, AnswersCerts, AnswersSynth}
use Rattle.sail_top.specs.Answer.{accepted_text, answer_for, machine_of, model_refused, told, usage, no_file, too_long}
use Rattle.sail_top.specs.Seeded.{seeded_front, seeded_image, seeded_setup, seeded_texts}
use Rattle.sail_top.specs.Reading.{Wanted, wanted_model, wanted_elf, wanted_by, Contents, contents_at}
use Rattle.sail_top.specs.Reading.{ReadEnd, whole, absent, long, behind, reading}
use Rattle.sail_compile.specs.declared.models.Accepted.{Accepted}
use Rattle.sail_top.specs.declared.status.Answer.{Answer}

module _ (decided : AreDecided) (answers : Accepted → List Def → Answer → Type 0)
    (some : (texts : List (List ℕ)) (made : Accepted) (accepted : AreAccepted texts made) → (a : Answer) × answers made (gathered accepted.definitions) a) where
  instances_judged : (texts : List (List ℕ)) (tokens : List (List Token)) (definitions : List Def) (certified : Certification)
      (found : Result (List Instance) MonoError) → AreLexed 1 0 texts tokens → IsModel (joined texts tokens) definitions
      → why_ungathered definitions ≡ None → IsAccepted (gathered definitions) (end_of_all texts) → why_unshaped (gathered definitions) ≡ None
      → checked (gathered definitions) ≡ Ok certified → instances_of (gathered definitions) ≡ found → (a : Answer) × Judges answers texts a
  instances_judged texts tokens definitions certified (Err e) lexed parsed none tabled shaped closed is =
      (model_refused (size_refusal e), inl (size_refusal e, unsized tokens definitions certified e lexed parsed none tabled shaped closed is, refl))
  instances_judged texts tokens definitions certified (Ok list) lexed parsed none tabled shaped closed is =
      let made : Accepted = record { certified = certified; instances = list } in
      let are : AreAccepted texts made = record {
        tokens = tokens;
        lexed = lexed;
        definitions = definitions;
        parsed = parsed;
        gathers = none;
        tables = tabled;
        shapes = shaped;
        closed = closed;
        listed = is;
      } in
      let a = some texts made are in
      (a.0, inr (made, are, a.1))

  check_judged : (texts : List (List ℕ)) (tokens : List (List Token)) (definitions : List Def) (found : Result Certification CheckError)
      → AreLexed 1 0 texts tokens → IsModel (joined texts tokens) definitions → why_ungathered definitions ≡ None
      → IsAccepted (gathered definitions) (end_of_all texts) → why_unshaped (gathered definitions) ≡ None
      → checked (gathered definitions) ≡ found → (a : Answer) × Judges answers texts a
  check_judged texts tokens definitions (Err e) lexed parsed none tabled shaped is =
      (model_refused (check_refusal e), inl (check_refusal e, unclosed tokens definitions e lexed parsed none tabled shaped is, refl))
  check_judged texts tokens definitions (Ok certified) lexed parsed none tabled shaped is =
      instances_judged texts tokens definitions certified (instances_of (gathered definitions)) lexed parsed none tabled shaped is refl

  shape_judged : (texts : List (List ℕ)) (tokens : List (List Token)) (definitions : List Def)
      (why : Option ShapeError) → AreLexed 1 0 texts tokens → IsModel (joined texts tokens) definitions → why_ungathered definitions ≡ None
      → IsAccepted (gathered definitions) (end_of_all texts) → why_unshaped (gathered definitions) ≡ why → (a : Answer) × Judges answers texts a
  shape_judged texts tokens definitions (Some e) lexed parsed none tabled is =
      let r = shape_refusal_in (gathered definitions) e in
      (model_refused r, inl (r, unshaped tokens definitions e lexed parsed none tabled is, refl))
  shape_judged texts tokens definitions None lexed parsed none tabled is =
      check_judged texts tokens definitions (checked (gathered definitions)) lexed parsed none tabled is refl

  table_judged : (texts : List (List ℕ)) (tokens : List (List Token)) (definitions : List Def)
      (failure : Option TableError) → AreLexed 1 0 texts tokens → IsModel (joined texts tokens) definitions → why_ungathered definitions ≡ None
      → IsFirstFailure (gathered definitions) (end_of_all texts) failure → (a : Answer) × Judges answers texts a
  table_judged texts tokens definitions (Some e) lexed parsed none first =
      (model_refused (table_refusal e), inl (table_refusal e, untabled tokens definitions e lexed parsed none first, refl))
  table_judged texts tokens definitions None lexed parsed none first =
      shape_judged texts tokens definitions (why_unshaped (gathered definitions)) lexed parsed none first refl

  gather_judged : (texts : List (List ℕ)) (tokens : List (List Token)) (definitions : List Def)
      (why : Option ScatterError) → AreLexed 1 0 texts tokens → IsModel (joined texts tokens) definitions → why_ungathered definitions ≡ why
      → (a : Answer) × Judges answers texts a
  gather_judged texts tokens definitions (Some e) lexed parsed is =
      (model_refused (gather_refusal e), inl (gather_refusal e, ungathered tokens definitions e lexed parsed is, refl))
  gather_judged texts tokens definitions None lexed parsed is =
      table_judged texts tokens definitions (failure_of (gathered definitions) (end_of_all texts)) lexed parsed is
      (has_failure (gathered definitions) (end_of_all texts))

  lexed_judged : (texts : List (List ℕ)) (tokens : List (List Token))
      → AreLexed 1 0 texts tokens → (a : Answer) × Judges answers texts a
  lexed_judged texts tokens lexed =
      elim (decided (joined texts tokens) (end_of_all texts)) [
        | inl model ↦ gather_judged texts tokens model.0 (why_ungathered model.0) lexed model.1 refl
        | inr refused ↦ (model_refused (parse_refusal refused.0), inl (parse_refusal refused.0, unparsed tokens refused.0 lexed refused.1, refl))
      ]

  judged : (texts : List (List ℕ)) → (a : Answer) × Judges answers texts a
  judged texts =
      elim (answered texts 1 0) [
        | inl lexed ↦ lexed_judged texts lexed.0 lexed.1
        | inr refused ↦ (model_refused (token_refusal refused.0), inl (token_refusal refused.0, unlexed refused.0 refused.1, refl))
      ]

-- a run of an accepted text has an answer, where the engine means something by it, or leaves it
ran : MeansOrLeaves jib → (front : List ℕ) (setup : Setup) (file : List ℕ) (texts : List (List ℕ)) (made : Accepted) (accepted : AreAccepted texts made)
    → (a : Answer) × AnswersRun jib front setup file made (gathered accepted.definitions) a
ran runs front setup file texts made accepted =
    elim (runs texts made accepted) [
      | inl left ↦ (model_refused outside, inl (left, refl))
      | inr means ↦ (answer_for front setup made.certified.core.types (machine_of made) means.0 file, inr (means.0, means.1, means.2, refl))
    ]

module _ (decided : AreDecided) (runs : MeansOrLeaves jib) (command : Run) where
  -- files of which one at least was read
  files_answered : (first : List ℕ) (more before : List (List ℕ)) → (a : Answer) × RunsFiles jib command (before ++ first ∷ more) a
  files_answered file [] before =
      let a = judged decided (AnswersAccepted jib command file) (ran runs [] command.setup file) before in
      (a.0, (before, file, refl, a.1))
  files_answered first (next ∷ more) before =
      let rest = files_answered next more (before ++ first ∷ []) in
      (rest.0, subst (λ files. RunsFiles jib command files rest.0) (append_assoc before (first ∷ []) (next ∷ more)) rest.1)

-- the end of a reading of which one file at least was read, or one couldn't be
abbrev IsFilled : ReadEnd → Type 0
IsFilled (whole []) = ⊥
IsFilled _ = Unit {0}

filled_behind : (bytes : List ℕ) (end : ReadEnd) → IsFilled (behind bytes end)
filled_behind bytes (whole rest) = tt
filled_behind bytes (absent number name) = tt
filled_behind bytes (long number name limit) = tt

filled : (number : ℕ) (file : Wanted) (files : List Wanted) (contents : Contents) → IsFilled (reading number (file ∷ files) contents)
filled number file files [] = tt
filled number file files (None ∷ contents) = tt
filled number file files (Some bytes ∷ contents) =
    elim (cases_Bool (nat_le (length bytes) file.limit)) [
      | inl short ↦ rw short (filled_behind bytes (reading (number + 1) files contents))
      | inr over ↦ rw over tt
    ]

filled_wanted : (models : List (List ℕ)) (elf : List ℕ) (contents : Contents)
    → IsFilled (reading 0 (map wanted_model models ++ wanted_elf elf ∷ []) contents)
filled_wanted [] elf contents = filled 0 (wanted_elf elf) [] contents
filled_wanted (model ∷ models) elf contents = filled 0 (wanted_model model) (map wanted_model models ++ wanted_elf elf ∷ []) contents

module _ (decided : AreDecided) where
  run_answered : MeansOrLeaves jib → (command : Run) (end : ReadEnd) → IsFilled end → (a : Answer) × AnswersEnd jib (C.Run command) end a
  run_answered runs command (absent number name) some = (no_file number name, refl)
  run_answered runs command (long number name limit) some = (too_long number name limit, refl)
  run_answered runs command (whole []) some = absurd some
  run_answered runs command (whole (first ∷ more)) some = files_answered decided runs command first more []

  check_answered : (models : List (List ℕ)) (end : ReadEnd) → (a : Answer) × AnswersEnd jib (C.Check models) end a
  check_answered models (absent number name) = (no_file number name, refl)
  check_answered models (long number name limit) = (too_long number name limit, refl)
  check_answered models (whole files) = judged decided AnswersCheck (λ texts made accepted. (told (accepted_text made), refl)) files

  certs_answered : (models : List (List ℕ)) (end : ReadEnd) → (a : Answer) × AnswersEnd jib (C.Certs models) end a
  certs_answered models (absent number name) = (no_file number name, refl)
  certs_answered models (long number name limit) = (too_long number name limit, refl)
  certs_answered models (whole files) = judged decided AnswersCerts (λ texts made accepted. (told (certificates_text made.certified), refl)) files

  synth_answered : MeansOrLeaves jib → (synth : Synth) (end : ReadEnd) → (a : Answer) × AnswersEnd jib (C.Synth synth) end a
  synth_answered runs synth (absent number name) = (no_file number name, refl)
  synth_answered runs synth (long number name limit) = (too_long number name limit, refl)
  synth_answered runs synth (whole files) =
      judged decided (AnswersSynth jib synth)
      (λ texts made. ran runs (seeded_front synth (accepted_text made)) (seeded_setup synth.size) (seeded_image synth) texts made) (seeded_texts synth)

  command_answered : (command : Command) (contents : Contents) → HasAnswer jib (Some command)
      → (a : Answer) × AnswersEnd jib command (reading 0 (wanted_by command) contents) a
  command_answered (C.Run command) contents runs =
      run_answered runs command (reading 0 (wanted_by (C.Run command)) contents) (filled_wanted command.models command.elf contents)
  command_answered (C.Check models) contents has = check_answered models (reading 0 (wanted_by (C.Check models)) contents)
  command_answered (C.Certs models) contents has = certs_answered models (reading 0 (wanted_by (C.Certs models)) contents)
  command_answered (C.Synth synth) contents runs = synth_answered runs synth (reading 0 (wanted_by (C.Synth synth)) contents)

  line_answered : (l : Option Command) (files : Files) → HasAnswer jib l → (a : Answer) × AnswersLine jib l (Some files) a
  line_answered None files has = (usage, refl)
  line_answered (Some command) files has = command_answered command (contents_at files (wanted_by command)) has

  -- words have an answer over all files that are told, where what they run has one
  pub some_answer : (words : List (List ℕ)) (files : Files) → AreAnswered jib words → (a : Answer) × IsAnswer jib words (Some files) a
  some_answer words files has = line_answered (line_of words) files has
