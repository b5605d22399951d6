-- What is checked of gathered definitions whose shapes are right: their obligations, and then their sizes.
use Rattle.std.specs.Prelude.{ℕ, List, Option, None, Result}
use Rattle.sail_syntax.specs.declared.definitions.Def.{Def}
use Rattle.sail_core.specs.declared.model.CoreModel.{CoreModel}
use Rattle.shapes.specs.Resolved.{resolved}
use Rattle.shapes.specs.Tabled.{tabled_of}
use Rattle.constraint_gen.specs.Obligations.{obligations}
use Rattle.bidir_check.specs.declared.error.CheckError.{CheckError}
use Rattle.bidir_check.specs.Certification.{Certification}
use Rattle.bidir_check.specs.Checking.{certified}
use Rattle.monomorph.specs.declared.error.MonoError.{MonoError}
use Rattle.sized_nodes.specs.declared.trees.Instance.{Instance}
use Rattle.monomorph.specs.Instances.{instances}

-- no function is told to be in a cycle of calls: a text doesn't say how its cycles are numbered
abbrev pub no_cycle : List ℕ → Option ℕ
no_cycle name = None

-- the core of a text without the numbers of its cycles
abbrev pub core_of : List Def → CoreModel
core_of text = resolved (tabled_of text) no_cycle text

-- a core with a certificate for each of its obligations, or the first that isn't closed
abbrev pub checked_core : CoreModel → Result Certification CheckError
checked_core core = certified core (obligations core)

-- that of a text
abbrev pub checked : List Def → Result Certification CheckError
checked text = checked_core (core_of text)

-- the instances of a text, or the first size that is refused
abbrev pub instances_of : List Def → Result (List Instance) MonoError
instances_of text = instances (core_of text)
