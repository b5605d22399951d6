-- The machine of the module of a text does as the text means: what is worked out once, `reset` and `step`.
use Rattle.std.specs.Prelude.{◌≡◌, ◌<◌, ◌≤◌, ◌+◌, ◌*◌, ℕ, true, List, [], length, Option, Some, Ok}
use Rattle.sail_types.specs.Numbers.{Positive}
use Rattle.sail_types.specs.declared.values.Value.{Value}
use Rattle.sail_types.specs.declared.values.Value.TheVariants as V
use Rattle.model_state.specs.Folds.{Meaning, after_step}
use Rattle.model_state.specs.RunState.{Ran, RunState}
use Rattle.model_state.specs.declared.cause.Ended.{Ended}
use Rattle.model_state.specs.declared.cause.Ended.TheVariants as E
use Rattle.sail_syntax.specs.declared.definitions.Def.{Def}
use Rattle.scattered.specs.Gathered.{gathered}
use Rattle.sail_core.specs.Start.{init_ran}
use Rattle.sail_core.specs.declared.model.CoreModel.{CoreModel}
use Rattle.constraint_gen.specs.Obligations.{obligations}
use Rattle.goal_laws.specs.Goals.{AllHold}
use Rattle.checked_meaning.specs.Checked.{checking}
use Rattle.sized_trees.specs.Trees.{sized_core}
use Rattle.sized_nodes.specs.declared.trees.SizedCore.{SizedCore}
use Rattle.sized_meanings.specs.Sized.{noted_checks_of}
use Rattle.covering_laws.specs.Apart.{NumbersApart}
use Rattle.text_progress.specs.Laws.{core_of}
use Rattle.sail_compile.specs.Meanings.{JibMeans, entries}
use Rattle.sail_compile.specs.Models.{AreAccepted}
use Rattle.sail_compile.specs.declared.models.Accepted.{Accepted}
use Rattle.whole_runs.specs.Runs.{Behind}
use Rattle.whole_runs.specs.Safe.{IsFit}
use Rattle.jib.specs.Openings.{Opens, initial}
use Rattle.jib.specs.Valid.{valid}
use Rattle.jib.specs.declared.code.Module.{Module}
use Rattle.jib_machine.specs.Events.{events}
use Rattle.lowered_laws.specs.Modules.{Made}
use Rattle.safe_models.specs.Options.{OptionFirst}
use Rattle.safe_models.specs.RunEvents.{MadeOf}
use Rattle.safe_models.specs.Safe.{Cycles, meant_of, text_parts}
use Rattle.safe_models.specs.Tables.{core_in}
use Rattle.jib_lower.specs.Lowered.{LoweredFrom}

-- ---- of a core whose nodes have numbers of their own, and whose first type is `option`

-- a module at work, with these values of its openings, that is made of a core, where so many functions of directions of mappings stand first; events enter the
-- function behind that which calls enter
pub record IsMade (core : CoreModel) (sized : SizedCore) (m : Module) (before : ℕ) (lets : List Value) (hart : ℕ) : Type 0 where
  pub made : Made
  pub module_is : made.m ≡ m
  pub lets_are : made.lets ≡ lets
  pub event_is : (p : ℕ) → made.event p ≡ before + 2 * p + 1
  pub is : MadeOf core sized hart made

-- the module that is lowered from a core is made of it, over whatever state its openings are worked out
abbrev pub ModulesAreMade : Type 0
ModulesAreMade = (core : CoreModel) (sized : SizedCore) (m : Module) → NumbersApart core → sized_core core ≡ Ok sized → (low : LoweredFrom core sized m)
    → OptionFirst core.types → (over : RunState) (es : List Ended) (lets : List Value) → Opens m core.types over m.openings [] es lets → (hart : ℕ)
    → IsMade core sized m (length low.flat.ways) lets hart

-- and so from each state its openings, which ended so, come to what those of the core come to where cases go by noted numbers and none is stuck: they set
-- the registers in order, or stop at the first that stops
abbrev pub ModulesStart : Type 0
ModulesStart = (core : CoreModel) (sized : SizedCore) (m : Module) → NumbersApart core → sized_core core ≡ Ok sized → LoweredFrom core sized m
    → OptionFirst core.types → (over : RunState) (es : List Ended) (lets : List Value) → Opens m core.types over m.openings [] es lets
    → (state : RunState) (ran : Ran)
    → init_ran (checking (noted_checks_of core sized)) core state ≡ Some ran → initial m.openings es state ≡ ran

-- ---- of an accepted text

-- the machine of this module, where so many functions of directions of mappings stand first, and whose openings ended so and have these values: `reset` enters
-- the first instance, and `step` the second, by the function that stands behind the one that calls enter
abbrev pub machine_of : (core : CoreModel) (m : Module) → ℕ → valid m ≡ true → List Ended → List Value → Meaning
machine_of core m before v es lets = events m v core.types core.registers (entries before) es lets

-- a part of the text's run comes to this, and something is so behind it, where it doesn't stop the run
abbrev pub Comes : Option Ran → Ran → (Ran → Type 0) → Type 0
Comes part ran next = (part ≡ Some ran) × Behind ran.ended (next ran)

-- what takes the steps does as the text means, with so many harts, from each state whose registers belong to their types: and so they do behind it
pub record MeansText (text : List Def) (cycle : Cycles) (past : Positive) (count : ℕ) (m : Meaning) : Type 0 where
  -- top-level lets and initial values, however they end
  pub start : (state : RunState) → IsFit (core_of text cycle) past count state
      → Comes ((text_parts (meant_of text cycle)).init state) (m.init state) (λ ran. IsFit (core_of text cycle) past count ran.state)
  -- and where they ended with a value from one such state, the events of each hart
  pub events : (first : RunState) → IsFit (core_of text cycle) past count first → (m.init first).ended ≡ E.Value V.Unit → (hart : ℕ) → hart < count
      → (state : RunState) → IsFit (core_of text cycle) past count state
      → ((entry : ℕ) → Comes ((text_parts (meant_of text cycle)).reset hart entry state) (m.reset hart entry state)
      (λ ran. IsFit (core_of text cycle) past count ran.state))
      × Comes ((text_parts (meant_of text cycle)).step hart state) (m.step hart state)
      (λ ran. IsFit (core_of text cycle) past count (after_step hart ran.ended ran.state))

-- the module that is lowered from the core of an accepted text, whatever the numbers of its cycles of calls, where the obligations of that core hold: once
-- its openings are worked out over whatever state, its machine does as the text means
abbrev pub MachinesMeanTexts : Type 0
MachinesMeanTexts = (texts : List (List ℕ)) (made : Accepted) (accepted : AreAccepted texts made) (cycle : Cycles) (sized : SizedCore) (m : Module)
    → AllHold (obligations (core_in accepted cycle)) → sized_core (core_in accepted cycle) ≡ Ok sized → (low : LoweredFrom (core_in accepted cycle) sized m)
    → (v : valid m ≡ true) (over : RunState) (es : List Ended) (lets : List Value) → Opens m (core_in accepted cycle).types over m.openings [] es lets
    → (past : Positive) (count : ℕ) → 0 < count → count ≤ 8
    → MeansText (gathered accepted.definitions) cycle past count (machine_of (core_in accepted cycle) m (length low.flat.ways) v es lets)

-- so what the engine of flat code means by the definitions of an accepted text is what they mean
abbrev pub EnginesMeanTexts : Type 0
EnginesMeanTexts = (texts : List (List ℕ)) (made : Accepted) (accepted : AreAccepted texts made) (m : Meaning)
    (code : JibMeans (gathered accepted.definitions) m) (past : Positive) (count : ℕ) → 0 < count → count ≤ 8
    → MeansText (gathered accepted.definitions) code.numbered.cycle past count m
