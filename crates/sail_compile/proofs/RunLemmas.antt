-- What takes the steps of a text means what its flat code means.
use Rattle.std.proofs.Common.{◌≡◌, ◌∙◌, inl, inr, List, [], Option, Some, None, sym, ap, refl, subst, true}
use Rattle.std.specs.Prelude.{ℕ, Ok, Err, IfOk, Result}
use Rattle.sail_syntax.specs.declared.definitions.Def.{Def}
use Rattle.sail_core.specs.declared.model.CoreModel.{CoreModel}
use Rattle.bidir_check.specs.declared.error.CheckError.{CheckError}
use Rattle.bidir_check.specs.declared.error.CheckError.TheVariants as C
use Rattle.bidir_check.specs.Certification.{Certification}
use Rattle.bidir_check.specs.Checking.{IsMet as IsChecked, checked as certificates_of}
use Rattle.constraint_gen.specs.Obligations.{obligations}
use Rattle.shapes.specs.Resolved.{resolved}
use Rattle.shapes.specs.Tabled.{tabled_of}
use Rattle.jib.specs.Openings.{Opens}
use Rattle.jib.specs.declared.code.Module.{Module}
use Rattle.jib_lower.specs.declared.error.LowerError.{LowerError}
use Rattle.jib_lower.specs.declared.error.LowerError.TheVariants as L
use Rattle.jib_lower.specs.Errors.{OrMemory}
use Rattle.jib_lower.specs.Lowerable.{NotLowerable}
use Rattle.jib_lower.specs.Lowered.{LoweredBehind}
use Rattle.jib_machine.specs.Events.{blank, events}
use Rattle.jib_machine.specs.declared.entries.Entries.{Entries}
use Rattle.jib_machine.specs.declared.machine.Machine.{Machine}
use Rattle.mappings.specs.Rewriting.{without_mappings}
use Rattle.match_rewrite.specs.Rewriting.{with_flat_arms}
use Rattle.monomorph.specs.declared.error.MonoError.{MonoError}
use Rattle.monomorph.specs.declared.error.MonoError.TheVariants as E
use Rattle.sized_trees.specs.Trees.{Answer, IsMet, sized_core}
use Rattle.sized_nodes.specs.declared.trees.SizedCore.{SizedCore}
use Rattle.sail_compile.specs.Checked.{checked, checked_core, core_of}
use Rattle.sail_compile.specs.Engines.{HasRegisters, IsNotWanted, IsTried, RunsAs}
use Rattle.sail_compile.specs.Meanings.{CodeLeft, IsNumbered, entries, jib, no_sizes, not_closed, not_lowered}
use Rattle.sail_compile.specs.declared.compiled.Running.{Running}
use Rattle.sail_compile.specs.declared.compiled.Running.TheVariants as R
use Rattle.sail_compile.specs.parts.Runs.{CodeRuns, CoreRuns, RunsCode, ZeroedRuns, meant}
use Rattle.sail_compile.specs.parts.Told.{IsRunCore}
use Rattle.sail_compile.specs.Zeros.{have_zeros}
use Rattle.sail_compile.proofs.CheckLemmas.{certified_core, core_is}

-- the core that is certified has the registers of each core of the text, however its cycles are numbered
same_registers : (text : List Def) (cycle : List ℕ → Option ℕ) → (resolved (tabled_of text) cycle text).registers ≡ (core_of text).registers
same_registers text cycle = refl

-- what takes the steps means what the text's flat code means, over the registers of a core
abbrev Runs : List Def → CoreModel → Running Machine → Type 0
Runs text core run = RunsAs meant jib text run × HasRegisters meant core run

none_runs : (text : List Def) (core : CoreModel) (run : Running Machine) → IsNotWanted run → Runs text core run
none_runs text core R.NotWanted h = (tt, tt)
none_runs text core R.NotRun h = absurd h
none_runs text core (R.Runs machine) h = absurd h

core_runs : (text : List Def) (certified core : CoreModel) → IsNumbered text core → certified ≡ core_of text → (run : Running Machine) → CoreRuns core run
    → Runs text certified run
core_runs text certified core numbered is R.NotWanted h = absurd h
core_runs text certified core numbered is R.NotRun h = (record { core = core; numbered = numbered; code = h }, tt)
core_runs text certified core numbered is (R.Runs machine) h = (
  record { core = core; numbered = numbered; certified = h.0; closed = h.1; zeros = h.2.0; code = h.2.1.means },
  h.2.1.registers ∙ ap (λ (c : CoreModel). c.registers) numbered.is ∙ same_registers text numbered.cycle ∙ sym (ap (λ (c : CoreModel). c.registers) is),
)

pub runs_by : (text : List Def) (certified : Certification) (again : Option CoreModel) (run : Running Machine) → IsRunCore text again
    → checked text ≡ Ok certified → (again ≡ None → IsNotWanted run) → ((core : CoreModel) → again ≡ Some core → CoreRuns core run)
    → Runs text certified.core run
runs_by text certified None run numbered closed none some = none_runs text certified.core run (none refl)
runs_by text certified (Some core) run numbered closed none some =
    core_runs text certified.core core numbered (core_is text certified closed) run (some core refl)

pub some_same : {A : Type 0} (x y : A) → Some x ≡ Some y → x ≡ y
some_same x y e = cc

-- what is tried for a core was tried
tried : (core : CoreModel) (run : Running Machine) → CoreRuns core run → IsTried run
tried core R.NotWanted h = h
tried core R.NotRun h = tt
tried core (R.Runs machine) h = tt

pub runs_tried : {E : Type 0} (core : CoreModel) (r : Result (Running Machine) E) → IfOk r (CoreRuns core) → IfOk r IsTried
runs_tried core (Ok run) h = tried core run h
runs_tried core (Err e) h = h

-- ---- a core of which each register has a zero

zeroed_runs : (core : CoreModel) → have_zeros core.types core.registers ≡ true → (run : Running Machine) → CodeRuns core run → ZeroedRuns core run
zeroed_runs core zeros R.NotWanted h = h
zeroed_runs core zeros R.NotRun h = h
zeroed_runs core zeros (R.Runs machine) h = (zeros, h)

pub zeroed_code : {E : Type 0} (core : CoreModel) (r : Result (Running Machine) E) → have_zeros core.types core.registers ≡ true → IfOk r (CodeRuns core)
    → IfOk r (ZeroedRuns core)
zeroed_code core (Ok run) zeros h = zeroed_runs core zeros run h
zeroed_code core (Err e) zeros h = h

-- ---- a core with certificates

certified_runs : (core held : CoreModel) (made : Certification) → checked_core core ≡ Ok made → held ≡ core → (run : Running Machine)
    → ZeroedRuns held run → CoreRuns core run
certified_runs core held made closed same R.NotWanted h = h
certified_runs core held made closed same R.NotRun h = subst CodeLeft same h
certified_runs core held made closed same (R.Runs machine) h = (made, closed, subst (λ c. ZeroedRuns c (R.Runs machine)) same h)

pub certified_code : {E : Type 0} (core held : CoreModel) (made : Certification) (r : Result (Running Machine) E) → IsChecked (Ok made) (checked_core core)
    → held ≡ made.core → IfOk r (ZeroedRuns held) → IfOk r (CoreRuns core)
certified_code core held made (Ok run) (inl met) same h =
    let os = obligations core in
    certified_runs core held made (sym met) (same ∙ certified_core core os (certificates_of os) made (sym met)) run h
certified_code core held made (Ok run) (inr wanting) same h = cc wanting
certified_code core held made (Err e) met same h = h

-- one of which an obligation isn't closed has no flat code
pub left_unclosed : (core : CoreModel) (error : CheckError) → IsChecked (Err error) (checked_core core) → (error ≡ C.OutOfMemory → ⊥) → CodeLeft core
left_unclosed core error (inl same) no_memory = not_closed (sym same)
left_unclosed core error (inr none) no_memory = absurd (no_memory (error_same error C.OutOfMemory (Err error) refl none))
  where
    error_same : (a b : CheckError) (r : Result Certification CheckError) → r ≡ Err a → r ≡ Err b → a ≡ b
    error_same a b r e f = cc

-- a core that isn't lowered has no flat code
pub left_without : (core : CoreModel) (sized : SizedCore) (error : LowerError) → sized_core core ≡ Ok sized → (error ≡ L.Memory → ⊥)
    → OrMemory (NotLowerable core sized) error → CodeLeft core
left_without core sized L.Memory sizes no_memory why = absurd (no_memory refl)
left_without core sized (L.Table t) sizes no_memory why = not_lowered sizes why
left_without core sized L.NotTabled sizes no_memory why = not_lowered sizes why
left_without core sized L.NotResolved sizes no_memory why = not_lowered sizes why
left_without core sized (L.NotLowered p) sizes no_memory why = not_lowered sizes why
left_without core sized (L.NotSized p) sizes no_memory why = not_lowered sizes why
left_without core sized L.NotThere sizes no_memory why = not_lowered sizes why

-- so one of which the sizes aren't found
pub left_unsized : (core : CoreModel) (error : MonoError) → IsMet (Err error) (sized_core core) → (error ≡ E.OutOfMemory → ⊥) → CodeLeft core
left_unsized core error (inl same) no_memory = no_sizes (sym same)
left_unsized core error (inr none) no_memory = absurd (no_memory (error_same error E.OutOfMemory (Err error) refl none))
  where
    error_same : (a b : MonoError) (r : Answer) → r ≡ Err a → r ≡ Err b → a ≡ b
    error_same a b r e f = cc

-- ---- the machine of what a core is lowered to

module _ (written : CoreModel) (sized : SizedCore) (flat : CoreModel) (program : Module) (before : ℕ) (sizes : sized_core written ≡ Ok sized)
    (is_flat : flat ≡ with_flat_arms (without_mappings written)) (low : LoweredBehind written sized program before) where
  types_are : flat.types ≡ written.types
  types_are = ap (λ (c : CoreModel). c.types) is_flat

  registers_are : flat.registers ≡ written.registers
  registers_are = ap (λ (c : CoreModel). c.registers) is_flat

  machine_runs : (machine : Machine) → machine.program ≡ program → machine.types ≡ flat.types → machine.registers ≡ flat.registers
      → machine.entries ≡ entries before → Opens program flat.types blank program.openings [] machine.opened machine.lets → RunsCode written machine
  machine_runs machine same types registers enters opens =
      let typed : machine.types ≡ written.types = types ∙ types_are in
      let held : machine.registers ≡ written.registers = registers ∙ registers_are in
      let behind : LoweredBehind written sized machine.program before = subst (λ p. LoweredBehind written sized p before) (sym same) low in
      record {
        means = record {
          sized = sized;
          sizes = sizes;
          program = machine.program;
          lowered = behind.from;
          sound = machine.kept;
          opened = machine.opened;
          lets = machine.lets;
          opens =
              subst (λ p. Opens p written.types blank p.openings [] machine.opened machine.lets) (sym same)
              (subst (λ t. Opens program t blank program.openings [] machine.opened machine.lets) types_are opens);
          is = λ i. events machine.program machine.kept (typed i) (held i) ((enters ∙ ap entries behind.many) i) machine.opened machine.lets;
        };
        registers = held;
      }

  pub started : {E : Type 0} (given : Entries) → given ≡ entries before → (r : Result Machine E) → IfOk r (λ m. m.program ≡ program)
      → IfOk r (λ m. m.types ≡ flat.types) → IfOk r (λ m. m.registers ≡ flat.registers) → IfOk r (λ m. m.entries ≡ given)
      → IfOk r (λ m. Opens program flat.types blank program.openings [] m.opened m.lets) → IfOk r (RunsCode written)
  started given is (Ok machine) same types registers enters opens = machine_runs machine same types registers (enters ∙ is) opens
  started given is (Err e) same types registers enters opens = same
