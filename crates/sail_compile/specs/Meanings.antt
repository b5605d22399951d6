-- What the engine of flat code means by the definitions of a model.
use Rattle.std.specs.Prelude.{◌≡◌, ℕ, ◌+◌, true, false, List, [], length, Option, Err, Ok}
use Rattle.sail_types.specs.declared.values.Value.{Value}
use Rattle.sail_syntax.specs.declared.definitions.Def.{Def}
use Rattle.sail_core.specs.declared.model.CoreModel.{CoreModel}
use Rattle.model_state.specs.Folds.{Meaning}
use Rattle.model_state.specs.declared.cause.Ended.{Ended}
use Rattle.call_graph.specs.declared.found.Cycles.{Cycles}
use Rattle.sail_cycles.specs.Cycles.{AreCyclesOf, call_graph}
use Rattle.known_names.specs.Meanings.{known_in}
use Rattle.sail_tables.specs.Tabled.{cycle_named}
use Rattle.shapes.specs.Resolved.{resolved}
use Rattle.shapes.specs.Tabled.{tabled_of}
use Rattle.bidir_check.specs.declared.error.CheckError.{CheckError}
use Rattle.bidir_check.specs.Certification.{Certification}
use Rattle.monomorph.specs.declared.error.MonoError.{MonoError}
use Rattle.sized_trees.specs.Trees.{sized_core}
use Rattle.sized_nodes.specs.declared.trees.SizedCore.{SizedCore}
use Rattle.jib.specs.declared.code.Module.{Module}
use Rattle.jib.specs.Valid.{valid}
use Rattle.jib.specs.Openings.{Opens}
use Rattle.jib_machine.specs.Events.{blank, events}
use Rattle.jib_machine.specs.declared.entries.Entries.{Entries}
use Rattle.jib_lower.specs.Lowered.{LoweredFrom}
use Rattle.jib_lower.specs.Lowerable.{NotLowerable}
use Rattle.sail_compile.specs.Checked.{checked_core}
use Rattle.sail_compile.specs.Engines.{Meant}
use Rattle.sail_compile.specs.Zeros.{have_zeros}

-- the functions that events enter: those of the first two instances, which are of `reset` and `step`, behind so many functions of directions of mappings
abbrev pub entries : ℕ → Entries
entries before = record { reset = before + 1; step = before + 3 }

-- the meaning of the flat code that a core is lowered to, once its openings are worked out
pub record CodeMeans (core : CoreModel) (m : Meaning) : Type 0 where
  pub sized : SizedCore
  pub sizes : sized_core core ≡ Ok sized
  pub program : Module
  pub lowered : LoweredFrom core sized program
  pub sound : valid program ≡ true
  pub opened : List Ended
  pub lets : List Value
  pub opens : Opens program core.types blank program.openings [] opened lets
  pub is : m ≡ events program sound core.types core.registers (entries (length lowered.flat.ways)) opened lets

-- numbers of the cycles of calls of a text: two functions have one number where each reaches the other, and one that reaches itself has one
pub record NumbersCycles (text : List Def) (cycle : List ℕ → Option ℕ) : Type 0 where
  pub cycles : Cycles
  pub are : AreCyclesOf (call_graph (known_in text) text) cycles
  pub by_name : (name : List ℕ) → cycle name ≡ cycle_named cycles (known_in text) name

-- a core is that of definitions which have tables and shapes, with numbers of their cycles
pub record IsNumbered (text : List Def) (core : CoreModel) : Type 0 where
  pub cycle : List ℕ → Option ℕ
  pub numbered : NumbersCycles text cycle
  pub is : core ≡ resolved (tabled_of text) cycle text

-- the meaning of the flat code of a text, where each obligation of its core has a certificate, and each of its registers a zero
pub record JibMeans (text : List Def) (m : Meaning) : Type 0 where
  pub core : CoreModel
  pub numbered : IsNumbered text core
  pub certified : Certification
  pub closed : checked_core core ≡ Ok certified
  pub zeros : have_zeros core.types core.registers ≡ true
  pub code : CodeMeans core m

-- a core has no flat code: one of its obligations isn't closed, or one of its registers has no zero, or it has no constant sizes, or isn't lowered with
-- them
pub data CodeLeft (core : CoreModel) : Type 0 where
  not_closed : {error : CheckError} → checked_core core ≡ Err error → CodeLeft core
  no_zero : have_zeros core.types core.registers ≡ false → CodeLeft core
  no_sizes : {error : MonoError} → sized_core core ≡ Err error → CodeLeft core
  not_lowered : {sized : SizedCore} → sized_core core ≡ Ok sized → NotLowerable core sized → CodeLeft core

-- a text isn't run: so it is with its core
pub record JibLeaves (text : List Def) : Type 0 where
  pub core : CoreModel
  pub numbered : IsNumbered text core
  pub code : CodeLeft core

abbrev pub jib : Meant
jib = record { means = JibMeans; leaves = JibLeaves }
