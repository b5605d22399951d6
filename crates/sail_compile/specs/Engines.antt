-- What an engine makes of a model that is accepted: what takes the steps of its harts, if it runs it.
use Rattle.std.specs.Prelude.{◌≡◌, ℕ, List}
use Rattle.sail_syntax.specs.declared.definitions.Def.{Def}
use Rattle.scattered.specs.Gathered.{gathered}
use Rattle.sail_core.specs.declared.model.CoreModel.{CoreModel}
use Rattle.model_state.specs.Folds.{Meaning}
use Rattle.sail_compile.specs.Models.{AreAccepted}
use Rattle.sail_compile.specs.declared.compiled.Compiled.{Compiled}
use Rattle.sail_compile.specs.declared.compiled.Running.{Running}
use Rattle.sail_compile.specs.declared.compiled.Running.TheVariants as R

-- what an engine may mean by the gathered definitions of a model
abbrev pub Means : Type 1
Means = List Def → Meaning → Type 0

-- the definitions that an engine may leave: it runs no model of them
abbrev pub Leaves : Type 1
Leaves = List Def → Type 0

-- an engine
pub record Meant : Type 1 where
  pub means : Means
  pub leaves : Leaves

-- an engine means one thing by each text, or leaves it
pub record IsSingle (engine : Meant) : Type 0 where
  pub once : (text : List Def) (m n : Meaning) → engine.means text m → engine.means text n → m ≡ n
  pub never : (text : List Def) (m : Meaning) → engine.means text m → engine.leaves text → ⊥

-- what takes the steps means by definitions what the engine may mean by them; it isn't there where the model isn't to be run, or the engine leaves it
abbrev pub RunsAs : {S : Type 0} → (S → Meaning) → Meant → List Def → Running S → Type 0
RunsAs meaning engine text R.NotWanted = Unit {0}
RunsAs meaning engine text R.NotRun = engine.leaves text
RunsAs meaning engine text (R.Runs stepper) = engine.means text (meaning stepper)

-- it has the registers of the core
abbrev pub HasRegisters : {S : Type 0} → (S → Meaning) → CoreModel → Running S → Type 0
HasRegisters meaning core (R.Runs stepper) = (meaning stepper).registers ≡ core.registers
HasRegisters meaning core run = Unit {0}

-- what compiling texts gives
pub record IsCompiled {S : Type 0} (meaning : S → Meaning) (engine : Meant) (texts : List (List ℕ)) (made : Compiled S) : Type 0 where
  pub accepted : AreAccepted texts made.accepted
  pub runs : RunsAs meaning engine (gathered accepted.definitions) made.run
  pub registers : HasRegisters meaning made.accepted.certified.core made.run

-- a run was tried
abbrev pub IsTried : {S : Type 0} → Running S → Type 0
IsTried R.NotWanted = ⊥
IsTried run = Unit {0}

-- none was wanted
abbrev pub IsNotWanted : {S : Type 0} → Running S → Type 0
IsNotWanted R.NotWanted = Unit {0}
IsNotWanted run = ⊥
