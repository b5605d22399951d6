-- What is made of cores to take the steps of their harts.
use Rattle.std.specs.Prelude.{◌≡◌, true, Ok}
use Rattle.sail_syntax.specs.declared.definitions.Def.{Def}
use Rattle.sail_core.specs.declared.model.CoreModel.{CoreModel}
use Rattle.bidir_check.specs.Certification.{Certification}
use Rattle.model_state.specs.Folds.{Meaning}
use Rattle.jib_machine.specs.Events.{events}
use Rattle.jib_machine.specs.declared.machine.Machine.{Machine}
use Rattle.sail_compile.specs.Checked.{checked_core}
use Rattle.sail_compile.specs.Meanings.{CodeLeft, CodeMeans}
use Rattle.sail_compile.specs.Zeros.{have_zeros}
use Rattle.sail_compile.specs.declared.compiled.Running.{Running}
use Rattle.sail_compile.specs.declared.compiled.Running.TheVariants as R

-- what a machine means as what takes steps
abbrev pub meant : Machine → Meaning
meant machine = events machine.program machine.kept machine.types machine.registers machine.entries machine.opened machine.lets

-- a machine is that of the flat code of a core, over its registers
pub record RunsCode (core : CoreModel) (machine : Machine) : Type 0 where
  pub means : CodeMeans core (meant machine)
  pub registers : machine.registers ≡ core.registers

-- what is tried for a core is such a machine; it isn't there where the core has no flat code
abbrev pub CodeRuns : CoreModel → Running Machine → Type 0
CodeRuns core R.NotWanted = ⊥
CodeRuns core R.NotRun = CodeLeft core
CodeRuns core (R.Runs machine) = RunsCode core machine

-- and where each register of the core has a zero
abbrev pub ZeroedRuns : CoreModel → Running Machine → Type 0
ZeroedRuns core R.NotWanted = ⊥
ZeroedRuns core R.NotRun = CodeLeft core
ZeroedRuns core (R.Runs machine) = (have_zeros core.types core.registers ≡ true) × RunsCode core machine

-- and each obligation a certificate
abbrev pub CoreRuns : CoreModel → Running Machine → Type 0
CoreRuns core R.NotWanted = ⊥
CoreRuns core R.NotRun = CodeLeft core
CoreRuns core (R.Runs machine) = (certified : Certification) × (checked_core core ≡ Ok certified) × ZeroedRuns core (R.Runs machine)
