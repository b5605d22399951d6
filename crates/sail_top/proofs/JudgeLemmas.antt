-- The answer for texts that are compiled.
use Rattle.std.proofs.Common.{◌≡◌, List, inl, inr}
use Rattle.std.specs.Prelude.{ℕ, IfOk, Ok, Err, Result}
use Rattle.model_state.specs.Folds.{Meaning}
use Rattle.sail_syntax.specs.declared.definitions.Def.{Def}
use Rattle.sail_words.specs.declared.run.Setup.{Setup}
use Rattle.scattered.specs.Gathered.{gathered}
use Rattle.sail_compile.specs.Engines.{HasRegisters, IsTried, Meant, RunsAs}
use Rattle.sail_compile.specs.Models.{AreAccepted}
use Rattle.sail_compile.specs.declared.compiled.Running.{Running}
use Rattle.sail_compile.specs.declared.compiled.Running.TheVariants as R
use Rattle.sail_compile.specs.declared.models.Accepted.{Accepted}
use Rattle.sail_top.specs.Answer.{AnswersRun, Judges, answer_by}
use Rattle.sail_top.specs.declared.status.Answer.{Answer}

-- texts that are accepted are answered as their model is
pub accepted_judged : {E : Type 0} (answers : Accepted → List Def → Answer → Type 0) (texts : List (List ℕ)) (made : Accepted)
    (accepted : AreAccepted texts made) (r : Result Answer E) → IfOk r (answers made (gathered accepted.definitions)) → IfOk r (Judges answers texts)
accepted_judged answers texts made accepted (Ok answer) h = inr (made, accepted, h)
accepted_judged answers texts made accepted (Err e) h = h

-- what takes the steps answers as the engine may mean, and nothing where the engine leaves the model
pub answers_run : {S : Type 0} {E : Type 0} (meaning : S → Meaning) (engine : Meant) (front : List ℕ) (setup : Setup) (file : List ℕ) (made : Accepted)
    (text : List Def) (run : Running S) → RunsAs meaning engine text run → HasRegisters meaning made.certified.core run → IsTried run → (r : Result Answer E)
    → IfOk r (λ answer. answer ≡ answer_by meaning front setup file made run) → IfOk r (AnswersRun engine front setup file made text)
answers_run meaning engine front setup file made text (R.Runs stepper) means registers tried (Ok answer) is = inr (meaning stepper, means, registers, is)
answers_run meaning engine front setup file made text R.NotRun leaves registers tried (Ok answer) is = inl (leaves, is)
answers_run meaning engine front setup file made text R.NotWanted means registers tried (Ok answer) is = absurd tried
answers_run meaning engine front setup file made text run means registers tried (Err e) is = is
