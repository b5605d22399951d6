-- The ending of the top call, from its answer and the end of writing.
use Rattle.std.proofs.Common.{◌≡◌, ℕ, List, [], ◌∷◌, ◌++◌, Option, Some, None, refl, sym, ap, ◌∙◌, subst, inl, inr}
use Rattle.sail_outside.specs.Files.{Files}
use Rattle.sail_outside.specs.Faults.{Rose}
use Rattle.sail_outside.specs.Bytes.{Sent}
use Rattle.sail_base.specs.declared.elf_refusal.ElfRefusal.{ElfRefusal}
use Rattle.sail_compile.specs.Engines.{IsSingle, Meant}
use Rattle.sail_compile.proofs.ModelLemmas.{one_accepted_of, one_refusal_of, one_text_of, accepted_not_refused}
use Rattle.sail_top.specs.Answer.{Judges, RunsFiles, AnswersFiles, AnswersEnd, AnswersCommand, AnswersLine, IsAnswer}
use Rattle.sail_top.specs.Answer.{AnswersRun, AnswersAccepted, AnswersCheck, AnswersCerts, AnswersSynth, accepted_text, told}
use Rattle.sail_top.specs.Answer.{answer_for, machine_of, image_unless, run_unless, model_refused}
use Rattle.sail_top.specs.Seeded.{seeded_texts, seeded_image, seeded_setup, seeded_front}
use Rattle.elf_load.specs.Placed.{place_refusal}
use Rattle.elf_load.specs.Reading.{elf_refusal, image_of}
use Rattle.elf_load.specs.declared.image.Image.{Image}
use Rattle.sail_words.specs.Line.{line_of}
use Rattle.sail_words.specs.declared.command.Command.{Command}
use Rattle.sail_words.specs.declared.command.Command.TheVariants as C
use Rattle.sail_words.specs.declared.run.Run.{Run}
use Rattle.sail_words.specs.declared.run.Setup.{Setup}
use Rattle.sail_top.specs.Ending.{IsPlain, IsSettled, Answered, AnsweredPart, Completes}
use Rattle.sail_top.specs.Reading.{ReadEnd, whole, absent, long, contents_at, wanted_by, reading}
use Rattle.sail_top.specs.parts.Finished.{Finished, all, fault, wanting}
use Rattle.sail_types.specs.declared.table.Types.{Types}
use Rattle.sail_syntax.specs.declared.definitions.Def.{Def}
use Rattle.scattered.specs.Gathered.{gathered}
use Rattle.bidir_check.specs.Printed.{certificates_text}
use Rattle.model_state.specs.Folds.{Meaning}
use Rattle.sail_compile.specs.declared.models.Accepted.{Accepted}
use Rattle.sail_top.specs.declared.status.Answer.{Answer}
use Rattle.sail_top.specs.declared.status.Status.{Status}
use Rattle.sail_top.specs.declared.status.Status.TheVariants as status

plain_run : (front : List ℕ) (setup : Setup) (types : Types) (model : Meaning) (image : Image) (refused : Option ElfRefusal)
    → IsPlain (run_unless front setup types model image refused).status
plain_run front setup types model image None = tt
plain_run front setup types model image (Some refusal) = tt

plain_image : (front : List ℕ) (setup : Setup) (types : Types) (model : Meaning) (image : Image) (refused : Option ElfRefusal)
    → IsPlain (image_unless front setup types model image refused).status
plain_image front setup types model image None = plain_run front setup types model image (place_refusal image setup.ram_base setup.ram_size)
plain_image front setup types model image (Some refusal) = tt

plain_judged : (answers : Accepted → List Def → Answer → Type 0)
    → ((made : Accepted) (text : List Def) (answer : Answer) → answers made text answer → IsPlain answer.status) → (texts : List (List ℕ)) (answer : Answer)
    → Judges answers texts answer → IsPlain answer.status
plain_judged answers plain texts answer (inl refused) = subst (λ a. IsPlain a.status) (sym refused.2) tt
plain_judged answers plain texts answer (inr read) = plain read.0 (gathered read.1.definitions) answer read.2

plain_told : (bytes : List ℕ) (answer : Answer) → answer ≡ told bytes → IsPlain answer.status
plain_told bytes answer is = subst (λ (a : Answer). IsPlain a.status) (sym is) tt

-- ---- answers by an engine

module _ (engine : Meant) where
  plain_ran : (front : List ℕ) (setup : Setup) (file : List ℕ) (made : Accepted) (text : List Def) (answer : Answer)
      → AnswersRun engine front setup file made text answer → IsPlain answer.status
  plain_ran front setup file made text answer (inl left) = subst (λ (a : Answer). IsPlain a.status) (sym left.1) tt
  plain_ran front setup file made text answer (inr ran) =
      subst (λ (a : Answer). IsPlain a.status) (sym ran.3)
      (plain_image front setup made.certified.core.types ran.0 (image_of file) (elf_refusal file (machine_of made)))

  plain_files : (command : Command) (files : List (List ℕ)) (answer : Answer) → AnswersFiles engine command files answer → IsPlain answer.status
  plain_files (C.Run command) files answer is =
      plain_judged (AnswersAccepted engine command is.1) (plain_ran [] command.setup is.1) is.0 answer is.3
  plain_files (C.Check models) files answer is =
      plain_judged AnswersCheck (λ made text a h. plain_told (accepted_text made) a h) files answer is
  plain_files (C.Certs models) files answer is =
      plain_judged AnswersCerts (λ made text a h. plain_told (certificates_text made.certified) a h) files answer is
  plain_files (C.Synth synth) files answer is =
      plain_judged (AnswersSynth engine synth)
      (λ made. plain_ran (seeded_front synth (accepted_text made)) (seeded_setup synth.size) (seeded_image synth) made) (seeded_texts synth) answer is

  plain_end : (command : Command) (end : ReadEnd) (answer : Answer) → AnswersEnd engine command end answer → IsPlain answer.status
  plain_end command (absent number name) answer is = subst (λ a. IsPlain a.status) (sym is) tt
  plain_end command (long number name limit) answer is = subst (λ a. IsPlain a.status) (sym is) tt
  plain_end command (whole files) answer is = plain_files command files answer is

  plain_command : (command : Command) (held : Option Files) (answer : Answer) → AnswersCommand engine command held answer → IsPlain answer.status
  plain_command command None answer is = plain_end command (reading 0 (wanted_by command) is.0) answer is.1
  plain_command command (Some files) answer is =
      plain_end command (reading 0 (wanted_by command) (contents_at files (wanted_by command))) answer is

  plain_line : (l : Option Command) (held : Option Files) (answer : Answer) → AnswersLine engine l held answer → IsPlain answer.status
  plain_line None held answer is = subst (λ a. IsPlain a.status) (sym is) tt
  plain_line (Some command) held answer is = plain_command command held answer is

  -- an answer's status is none of a fault
  pub plain_answer : (words : List (List ℕ)) (held : Option Files) (answer : Answer) → IsAnswer engine words held answer → IsPlain answer.status
  plain_answer words held answer is = plain_line (line_of words) held answer is

-- ---- words have one answer

one_judged : (answers : Accepted → List Def → Answer → Type 0)
    → ((made : Accepted) (text : List Def) (a b : Answer) → answers made text a → answers made text b → a ≡ b) → (texts : List (List ℕ)) (a b : Answer)
    → Judges answers texts a → Judges answers texts b → a ≡ b
one_judged answers one texts a b (inl p) (inl q) = p.2 ∙ ap model_refused (one_refusal_of texts p.0 q.0 p.1 q.1) ∙ sym q.2
one_judged answers one texts a b (inl p) (inr q) = absurd (accepted_not_refused texts q.0 p.0 q.1 p.1)
one_judged answers one texts a b (inr p) (inl q) = absurd (accepted_not_refused texts p.0 q.0 p.1 q.1)
one_judged answers one texts a b (inr p) (inr q) =
    one q.0 (gathered q.1.definitions) a b
    (subst (λ text. answers q.0 text a) (ap gathered (one_text_of texts p.0 q.0 p.1 q.1))
    (subst (λ made. answers made (gathered p.1.definitions) a) (one_accepted_of texts p.0 q.0 p.1 q.1) p.2)) q.2

-- lists with one more item at their ends
one_last : (xs ys : List (List ℕ)) (x y : List ℕ) → xs ++ x ∷ [] ≡ ys ++ y ∷ [] → (xs ≡ ys) × (x ≡ y)
one_last [] [] x y same = (refl, cc same)
one_last [] (b ∷ []) x y same = cc same
one_last [] (b ∷ c ∷ ys) x y same = cc same
one_last (a ∷ []) [] x y same = cc same
one_last (a ∷ d ∷ xs) [] x y same = cc same
one_last (a ∷ xs) (b ∷ ys) x y same =
    let first : a ≡ b = cc same in
    let more : xs ++ x ∷ [] ≡ ys ++ y ∷ [] = cc same in
    let rest = one_last xs ys x y more in
    ((λ i. first i ∷ rest.0 i), rest.1)

module _ (engine : Meant) where
  one_ran : IsSingle engine → (front : List ℕ) (setup : Setup) (file : List ℕ) (made : Accepted) (text : List Def) (a b : Answer)
      → AnswersRun engine front setup file made text a → AnswersRun engine front setup file made text b → a ≡ b
  one_ran single front setup file made text a b (inl p) (inl q) = p.1 ∙ sym q.1
  one_ran single front setup file made text a b (inl p) (inr q) = absurd (single.never text q.0 q.1 p.0)
  one_ran single front setup file made text a b (inr p) (inl q) = absurd (single.never text p.0 p.1 q.0)
  one_ran single front setup file made text a b (inr p) (inr q) =
      p.3 ∙ ap (λ m. answer_for front setup made.certified.core.types (machine_of made) m file) (single.once text p.0 q.0 p.1 q.1) ∙ sym q.3

  one_of_run : IsSingle engine → (command : Run) (files : List (List ℕ)) (a b : Answer) → RunsFiles engine command files a
      → RunsFiles engine command files b → a ≡ b
  one_of_run single command files a b p q =
      let parts = one_last p.0 q.0 p.1 q.1 (sym p.2 ∙ q.2) in
      one_judged (AnswersAccepted engine command q.1) (one_ran single [] command.setup q.1) q.0 a b
      (subst (λ t. Judges (AnswersAccepted engine command q.1) t a) parts.0
      (subst (λ i. Judges (AnswersAccepted engine command i) p.0 a) parts.1 p.3)) q.3

  one_of_files : (command : Command) → IsSettled engine (Some command) → (files : List (List ℕ)) (a b : Answer) → AnswersFiles engine command files a
      → AnswersFiles engine command files b → a ≡ b
  one_of_files (C.Run command) single files a b p q = one_of_run single command files a b p q
  one_of_files (C.Check models) settled files a b p q = one_judged AnswersCheck (λ made text x y g h. g ∙ sym h) files a b p q
  one_of_files (C.Certs models) settled files a b p q = one_judged AnswersCerts (λ made text x y g h. g ∙ sym h) files a b p q
  one_of_files (C.Synth synth) single files a b p q =
      one_judged (AnswersSynth engine synth)
      (λ made. one_ran single (seeded_front synth (accepted_text made)) (seeded_setup synth.size) (seeded_image synth) made) (seeded_texts synth) a b p q

  one_end : (command : Command) → IsSettled engine (Some command) → (end : ReadEnd) (a b : Answer) → AnswersEnd engine command end a
      → AnswersEnd engine command end b → a ≡ b
  one_end command settled (absent number name) a b p q = p ∙ sym q
  one_end command settled (long number name limit) a b p q = p ∙ sym q
  one_end command settled (whole files) a b p q = one_of_files command settled files a b p q

  one_line : (l : Option Command) → IsSettled engine l → (files : Files) (a b : Answer) → AnswersLine engine l (Some files) a
      → AnswersLine engine l (Some files) b → a ≡ b
  one_line None settled files a b p q = p ∙ sym q
  one_line (Some command) settled files a b p q =
      one_end command settled (reading 0 (wanted_by command) (contents_at files (wanted_by command))) a b p q

  -- words that are settled have one answer over files that are told
  pub one_answer : (words : List (List ℕ)) (files : Files) (a b : Answer) → IsSettled engine (line_of words) → IsAnswer engine words (Some files) a
      → IsAnswer engine words (Some files) b → a ≡ b
  one_answer words files a b settled p q = one_line (line_of words) settled files a b p q

module _ (engine : Meant) where
  -- a plain status is the answer's, and all was written
  pub answered : (words : List (List ℕ)) (held : Option Files) {answer : Answer} {ended : Status} {given now : Option (List ℕ)} {before after : ℕ}
      → IsAnswer engine words held answer → Finished answer ended given now before after → IsPlain ended
      → Answered engine words held ended given now
  answered words held {answer} is (all sent) plain = (answer.bytes, is, sent)
  answered words held is (fault part rose) plain = absurd plain
  answered words held is (wanting part) plain = absurd plain

  -- a fault of writing
  pub faulted : (words : List (List ℕ)) (held : Option Files) {answer : Answer} {ended : Status} {given now : Option (List ℕ)} {before after : ℕ}
      → IsAnswer engine words held answer → Finished answer ended given now before after → ended ≡ status.WriteFault
      → Rose before after × AnsweredPart engine words held given now
  faulted words held {answer} is (all sent) same = absurd (subst IsPlain same (plain_answer engine words held answer is))
  faulted words held {answer} is (fault part rose) same = (rose, (answer, is, part))
  faulted words held is (wanting part) same = absurd (cc same)

  -- an answer is no fault of reading
  pub not_read_fault : (words : List (List ℕ)) (held : Option Files) {answer : Answer} {ended : Status} {given now : Option (List ℕ)} {before after : ℕ}
      → IsAnswer engine words held answer → Finished answer ended given now before after → ended ≡ status.ReadFault → ⊥
  not_read_fault words held {answer} is (all sent) same = subst IsPlain same (plain_answer engine words held answer is)
  not_read_fault words held is (fault part rose) same = cc same
  not_read_fault words held is (wanting part) same = cc same

completes_plain : (answer : Answer) (s : Status) (given now : Option (List ℕ))
    → IsPlain s → s ≡ answer.status → Sent given answer.bytes now → Completes answer s given now
completes_plain answer status.ReadFault given now plain same sent = absurd plain
completes_plain answer status.WriteFault given now plain same sent = absurd plain
completes_plain answer status.OutOfMemory given now plain same sent = absurd plain
completes_plain answer _ given now plain same sent = (same, sent)

completes : {answer : Answer} {ended : Status} {given now : Option (List ℕ)} {before after : ℕ}
    → IsPlain answer.status → Finished answer ended given now before after → Completes answer ended given now
completes {answer} {given} {now} plain (all sent) = completes_plain answer answer.status given now plain refl sent
completes plain (fault part rose) = part
completes plain (wanting part) = part

-- where the files are told and the words are settled, the ending is that of the answer
pub completes_told : (engine : Meant) (words : List (List ℕ)) (held : Option Files) {answer : Answer} {ended : Status} {given now : Option (List ℕ)}
    {before after : ℕ} → IsAnswer engine words held answer → Finished answer ended given now before after → (files : Files) (a : Answer)
    → held ≡ Some files → IsSettled engine (line_of words) → IsAnswer engine words (Some files) a → Completes a ended given now
completes_told engine words held {answer} {ended} {given} {now} is finished files a told settled other =
    let here : IsAnswer engine words (Some files) answer = subst (λ h. IsAnswer engine words h answer) told is in
    subst (λ x. Completes x ended given now) (one_answer engine words files answer a settled here other)
    (completes (plain_answer engine words held answer is) finished)
