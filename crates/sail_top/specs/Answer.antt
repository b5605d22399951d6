-- What the program answers to its words, over the files that are held.
use Rattle.std.specs.Prelude.{◌≡◌, ℕ, ℤ, List, [], ◌∷◌, ◌++◌, ◌⊎◌, codes, length, Option, Some, None}
use Rattle.bidir_check.specs.Printed.{certificates_text, counts_text}
use Rattle.model_state.specs.Report.{number_text}
use Rattle.sail_base.specs.declared.refusal.Refusal.{Refusal}
use Rattle.sail_base.specs.declared.elf_refusal.ElfRefusal.{ElfRefusal}
use Rattle.sail_outside.specs.Files.{Files}
use Rattle.elf_load.specs.Placed.{place_refusal}
use Rattle.elf_load.specs.Reading.{elf_refusal, image_of}
use Rattle.elf_load.specs.declared.image.Image.{Image}
use Rattle.sail_words.specs.Line.{line_of}
use Rattle.sail_words.specs.declared.command.Command.{Command}
use Rattle.sail_words.specs.declared.command.Command.TheVariants as C
use Rattle.sail_words.specs.declared.run.Run.{Run}
use Rattle.sail_words.specs.declared.run.Setup.{Setup}
use Rattle.sail_words.specs.declared.synth.Synth.{Synth}
use Rattle.sail_types.specs.declared.table.Types.{Types}
use Rattle.sail_syntax.specs.declared.definitions.Def.{Def}
use Rattle.scattered.specs.Gathered.{gathered}
use Rattle.model_state.specs.Folds.{Meaning}
use Rattle.sail_top.specs.Lines.{usage_line, no_file_line, too_long_line, refusal_line, elf_line}
use Rattle.sail_compile.specs.Engines.{Meant}
use Rattle.sail_compile.specs.Models.{AreAccepted, IsRefusal}
use Rattle.sail_top.specs.Reading.{ReadEnd, whole, absent, long, Contents, contents_at, wanted_by, reading}
use Rattle.sail_compile.specs.Refusals.{outside}
use Rattle.sail_top.specs.Run.{ram, run_text}
use Rattle.sail_top.specs.Wanted.{wanted_machine}
use Rattle.sail_top.specs.Seeded.{seeded_texts, seeded_image, seeded_setup, seeded_front}
use Rattle.sail_compile.specs.declared.compiled.Running.{Running}
use Rattle.sail_compile.specs.declared.compiled.Running.TheVariants as R
use Rattle.sail_compile.specs.declared.models.Accepted.{Accepted}
use Rattle.sail_top.specs.declared.status.Answer.{Answer}
use Rattle.sail_top.specs.declared.status.Status.TheVariants as status

abbrev pub model_refused : Refusal → Answer
model_refused refusal = record { status = status.ModelRefused refusal; bytes = refusal_line refusal }

abbrev pub image_refused : ElfRefusal → Answer
image_refused refusal = record { status = status.ElfRefused refusal; bytes = elf_line refusal }

-- how many functions and mappings a model has, how many obligations, and how many instances
abbrev pub accepted_text : Accepted → List ℕ
accepted_text made = counts_text made.certified ++ codes " " ++ number_text (length made.instances) ++ codes " instances\n"

-- a run of a model with these named types from an entry, over RAM of these bytes; this front is told before it
abbrev pub done : List ℕ → Setup → Types → Meaning → ℕ → List ℕ → Answer
done front setup types model entry bytes = record { status = status.Done; bytes = front ++ run_text setup types model entry bytes }

-- a run over RAM with the image, by why the image can't be placed there
abbrev pub run_unless : List ℕ → Setup → Types → Meaning → Image → Option ElfRefusal → Answer
run_unless front setup types model image (Some refusal) = image_refused refusal
run_unless front setup types model image None = done front setup types model image.entry (ram setup image)

-- the answer for a model and an image
abbrev pub image_answer : List ℕ → Setup → Types → Meaning → Image → Answer
image_answer front setup types model image = run_unless front setup types model image (place_refusal image setup.ram_base setup.ram_size)

-- the same, by why the image's file is refused
abbrev pub image_unless : List ℕ → Setup → Types → Meaning → Image → Option ElfRefusal → Answer
image_unless front setup types model image (Some refusal) = image_refused refusal
image_unless front setup types model image None = image_answer front setup types model image

-- the answer for a model and a program's file, which has to be for this machine, if one is wanted
abbrev pub answer_for : List ℕ → Setup → Types → Option ℤ → Meaning → List ℕ → Answer
answer_for front setup types wanted model file = image_unless front setup types model (image_of file) (elf_refusal file wanted)

-- the machine that an accepted model is for
abbrev pub machine_of : Accepted → Option ℤ
machine_of made = wanted_machine made.certified.core.openings

-- the answer for an accepted model and a program's file, by what takes the steps of its harts; where there is nothing, the model is refused
abbrev pub answer_by : {S : Type 0} → (S → Meaning) → List ℕ → Setup → List ℕ → Accepted → Running S → Answer
answer_by meaning front setup file made (R.Runs stepper) = answer_for front setup made.certified.core.types (machine_of made) (meaning stepper) file
answer_by meaning front setup file made run = model_refused outside

-- the answer of a run of an accepted model, with these definitions, and a program's file: that of what the engine may mean by them, over their registers;
-- or the refusal of those that it leaves
abbrev pub AnswersRun : Meant → List ℕ → Setup → List ℕ → Accepted → List Def → Answer → Type 0
AnswersRun engine front setup file made text answer =
    (engine.leaves text × (answer ≡ model_refused outside))
    ⊎ ((model : Meaning) × engine.means text model × (model.registers ≡ made.certified.core.registers)
    × (answer ≡ answer_for front setup made.certified.core.types (machine_of made) model file))

-- that of `run`
abbrev pub AnswersAccepted : Meant → Run → List ℕ → Accepted → List Def → Answer → Type 0
AnswersAccepted engine command file = AnswersRun engine [] command.setup file

-- that of `synth` for its model, which is accepted so: its numbers and the counts are told before the report
abbrev pub AnswersSynth : Meant → Synth → Accepted → List Def → Answer → Type 0
AnswersSynth engine synth made = AnswersRun engine (seeded_front synth (accepted_text made)) (seeded_setup synth.size) (seeded_image synth) made

-- a text is told
abbrev pub told : List ℕ → Answer
told bytes = record { status = status.Done; bytes = bytes }

-- the answer of `check` for an accepted model: its counts
abbrev pub AnswersCheck : Accepted → List Def → Answer → Type 0
AnswersCheck made text answer = answer ≡ told (accepted_text made)

-- the answer of `certs` for an accepted model: its obligations with their certificates
abbrev pub AnswersCerts : Accepted → List Def → Answer → Type 0
AnswersCerts made text answer = answer ≡ told (certificates_text made.certified)

-- the answer for the models' texts, by that for an accepted model
abbrev pub Judges : (Accepted → List Def → Answer → Type 0) → List (List ℕ) → Answer → Type 0
Judges answers texts answer =
    ((refusal : Refusal) × IsRefusal texts refusal × (answer ≡ model_refused refusal))
    ⊎ ((made : Accepted) × (accepted : AreAccepted texts made) × answers made (gathered accepted.definitions) answer)

-- the answer of `run` where all files are read: the models' texts, and the program's file behind them
abbrev pub RunsFiles : Meant → Run → List (List ℕ) → Answer → Type 0
RunsFiles engine command files answer =
    (texts : List (List ℕ)) × (file : List ℕ) × (files ≡ texts ++ file ∷ []) × Judges (AnswersAccepted engine command file) texts answer

-- the answer to a command where all files are read; those of `check` and `certs` are the models' texts, and `synth` has none
abbrev pub AnswersFiles : Meant → Command → List (List ℕ) → Answer → Type 0
AnswersFiles engine (C.Run command) files answer = RunsFiles engine command files answer
AnswersFiles engine (C.Check models) files answer = Judges AnswersCheck files answer
AnswersFiles engine (C.Certs models) files answer = Judges AnswersCerts files answer
AnswersFiles engine (C.Synth synth) files answer = Judges (AnswersSynth engine synth) (seeded_texts synth) answer

-- the file of this number isn't held
abbrev pub no_file : ℕ → List ℕ → Answer
no_file number name = record { status = status.NoFile number; bytes = no_file_line name }

-- the file of this number is too long
abbrev pub too_long : ℕ → List ℕ → ℕ → Answer
too_long number name limit = record { status = status.FileTooLong number limit; bytes = too_long_line name }

-- the words are no command
abbrev pub usage : Answer
usage = record { status = status.Usage; bytes = usage_line }

-- the answer to a command, by how the reading of its files ends
abbrev pub AnswersEnd : Meant → Command → ReadEnd → Answer → Type 0
AnswersEnd engine command (absent number name) answer = answer ≡ no_file number name
AnswersEnd engine command (long number name limit) answer = answer ≡ too_long number name limit
AnswersEnd engine command (whole files) answer = AnswersFiles engine command files answer

-- the answer to a command, over what is held at its files
abbrev pub AnswersOver : Meant → Command → Contents → Answer → Type 0
AnswersOver engine command contents answer = AnswersEnd engine command (reading 0 (wanted_by command) contents) answer

-- the answer to a command over the files that are held; where these aren't told, over some contents
abbrev pub AnswersCommand : Meant → Command → Option Files → Answer → Type 0
AnswersCommand engine command (Some files) answer = AnswersOver engine command (contents_at files (wanted_by command)) answer
AnswersCommand engine command None answer = (contents : Contents) × AnswersOver engine command contents answer

-- the answer to what the words say, likewise
abbrev pub AnswersLine : Meant → Option Command → Option Files → Answer → Type 0
AnswersLine engine None held answer = answer ≡ usage
AnswersLine engine (Some command) held answer = AnswersCommand engine command held answer

-- the answer to the words over the files that are held, by what the engine means; where these aren't told, over some contents
abbrev pub IsAnswer : Meant → List (List ℕ) → Option Files → Answer → Type 0
IsAnswer engine words held answer = AnswersLine engine (line_of words) held answer
