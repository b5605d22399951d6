-- The machine of the module of an accepted text does as the text means.
use Rattle.std.proofs.Common.{◌≡◌, ◌∙◌, ◌+◌, ◌*◌, ℕ, true, false, List, [], ◌∷◌, length, refl, sym, ap, subst, arith}
use Rattle.std.specs.Prelude.{Option, Some, None, pos}
use Rattle.sail_base.specs.Bits.{bits_of}
use Rattle.sail_types.specs.declared.table.Types.{Types}
use Rattle.sail_types.specs.declared.values.Value.{Value}
use Rattle.sail_types.specs.declared.values.Value.TheVariants as V
use Rattle.model_state.specs.Folds.{after_step}
use Rattle.model_state.specs.RunState.{Ran, RunState}
use Rattle.model_state.specs.declared.cause.Cause.{Cause}
use Rattle.model_state.specs.declared.cause.Ended.{Ended}
use Rattle.model_state.specs.declared.cause.Ended.TheVariants as E
use Rattle.sail_syntax.specs.declared.definitions.Def.{Def}
use Rattle.scattered.specs.Gathered.{gathered}
use Rattle.sail_core.specs.Program.{plain}
use Rattle.sail_core.specs.Start as S
use Rattle.sail_core.specs.Start.{Opened, event_ticks, init_ran, nowhere, openings_of, ran_from, reset_ran, step_ran}
use Rattle.sail_core.specs.declared.model.CoreModel.{CoreModel}
use Rattle.constraint_gen.specs.Obligations.{obligations}
use Rattle.goal_laws.specs.Goals.{AllHold}
use Rattle.checked_meaning.specs.Checked.{Checks, checking}
use Rattle.checked_meaning.specs.Laws.{IsStuckOr}
use Rattle.sized_nodes.specs.declared.trees.SizedCore.{SizedCore}
use Rattle.sized_meanings.specs.Laws.{SizedModelsAreAlike}
use Rattle.sized_meanings.specs.Sized.{noted_checks_of}
use Rattle.covering_laws.specs.Apart.{NumbersApart}
use Rattle.text_progress.specs.Laws.{core_of}
use Rattle.sail_compile.specs.Meanings.{CodeMeans}
use Rattle.sail_compile.proofs.HoldLemmas.{core_held}
use Rattle.accepted_models.specs.Models.{AcceptedModelsMeanText}
use Rattle.whole_runs.specs.Never.{AllEnd}
use Rattle.whole_runs.specs.Runs.{AreAlike, Behind, Goes}
use Rattle.whole_runs.specs.Safe.{IsFit, core_parts}
use Rattle.whole_runs.proofs.Ending.{end_anywhere}
use Rattle.jib.specs.Jib.{Outcome, Store, jib_run}
use Rattle.jib.specs.Openings.{Calls, begun, initial, ran_of}
use Rattle.jib.specs.Valid.{valid}
use Rattle.jib.specs.declared.code.Module.{Module}
use Rattle.jib.proofs.Determined.{determined}
use Rattle.jib.proofs.Ends.{ends}
use Rattle.jib.proofs.ValidLaws.{valid_once, valid_set, valid_ticking}
use Rattle.jib_machine.specs.Events.{blank, call_end, call_ran}
use Rattle.safe_models.specs.Options.{OptionFirst}
use Rattle.safe_models.specs.RunLaws.{LoweredEventsMean}
use Rattle.safe_models.specs.Safe.{Cycles, meant_of, text_parts}
use Rattle.safe_models.specs.Tables.{IsWhole, TabledCoresGo, core_in}
use Rattle.safe_models.proofs.Accepted.{as_held, of_text}
use Rattle.safe_models.proofs.Apart.{texts_apart}
use Rattle.safe_models.proofs.Meaning.{went}
use Rattle.safe_models.proofs.Options.{options_first}
use Rattle.safe_models.proofs.Texts.{parts_alike}
use Rattle.module_meanings.specs.Laws.{Comes, EnginesMeanTexts, IsMade, MachinesMeanTexts, MeansText, ModulesAreMade, ModulesStart}

-- ---- where the openings of the module come to an end from some state, those of the core end

value_not_stop : {X : Type 0} (v : Value) (cause : Cause) → E.Value v ≡ E.Stop cause → X
value_not_stop v cause e = cc

module _ (core : CoreModel) (sized : SizedCore) (m : Module) (es : List Ended) (state : RunState) where
  abbrev k : Checks
  k = noted_checks_of core sized

  all_end : (next : Ran → Type 0) → Goes (init_ran (checking k) core state) next
      → ((ran : Ran) → init_ran (checking k) core state ≡ Some ran → initial m.openings es state ≡ ran)
      → (initial m.openings es state).ended ≡ E.Value V.Unit → AllEnd core k
  all_end next goes starts ended = by (openings_of (checking k) core state) refl goes starts
    where
      by : (o : Opened) → openings_of (checking k) core state ≡ o → Goes (ran_from o) next
          → ((ran : Ran) → ran_from o ≡ Some ran → initial m.openings es state ≡ ran) → AllEnd core k
      by (S.opened ls end) is go start =
          let there = end_anywhere (checking k) ls core state (nowhere core.types) (end, is) in
          (ls, there.0, there.1)
      by (S.opened_to cause end) is go start =
          let ran : Ran = record { ended = E.Stop cause; state = end; accesses = [] } in
          value_not_stop V.Unit cause (sym ended ∙ ap (λ (r : Ran). r.ended) (start ran refl))
      by S.opened_not is go start = absurd go

-- ---- a call of the module at work is what the machine comes to

called_there : (core : CoreModel) (sized : SizedCore) (m : Module) (before : ℕ) (lets : List Value) (hart : ℕ) (k : IsMade core sized m before lets hart)
    (p q : ℕ) → before + 2 * p + 1 ≡ q → (ws : List Value) (state : RunState) (ran : Ran)
    → Calls k.made.m core.types k.made.lets hart event_ticks (k.made.event p) ws state ran → Calls m core.types lets hart event_ticks q ws state ran
called_there core sized m before lets hart k p q e ws state ran c =
    subst (λ f. Calls m core.types lets hart event_ticks f ws state ran) (k.event_is p ∙ e)
    (subst (λ ls. Calls m core.types ls hart event_ticks (k.made.event p) ws state ran) k.lets_are
    (subst (λ n. Calls n core.types k.made.lets hart event_ticks (k.made.event p) ws state ran) k.module_is c))

-- the functions that the events enter of the first two instances
first_event : (before : ℕ) → before + 2 * 0 + 1 ≡ before + 1
first_event before = omega arith

second_event : (before : ℕ) → before + 2 * 1 + 1 ≡ before + 3
second_event before = omega arith

module _ (m : Module) (v : valid m ≡ true) (types : Types) (lets : List Value) (hart f : ℕ) (vs : List Value) (state : RunState) where
  -- each call ends in one way
  end_is : (s : Store) (r : Outcome) → jib_run m lets hart f vs s r → call_end m v lets hart f vs s ≡ r
  unfolding call_end
  end_is s r run = determined m lets hart (valid_once m v) (ends m lets hart (valid_ticking m v) (valid_set m v) f vs s).1 run

  call_is : (ran : Ran) → Calls m types lets hart event_ticks f vs state ran → call_ran m v types lets hart f vs state ≡ ran
  unfolding event_ticks
  call_is ran c = ap (ran_of types) (end_is (begun 1000000 state) c.outcome c.run) ∙ sym c.same

-- ---- the text

-- what is so behind a part that isn't stuck in the reading is so behind the plain one
behind_plain : (o p : Option Ran) (r : Ran) (next : Ran → Type 0) → Goes o next → IsStuckOr o p → p ≡ Some r → Behind r.ended (next r)
behind_plain None p r next go alike e = absurd go
behind_plain (Some ran) p r next go alike e = subst (λ (q : Ran). Behind q.ended (next q)) (same (sym alike ∙ e)) go
  where
    same : Some ran ≡ Some r → ran ≡ r
    same h = cc

-- the text's part is the plain one, and the machine comes to what that comes to
comes_so : (part o p : Option Ran) (r x : Ran) (next : Ran → Type 0) → p ≡ part → Goes o next → IsStuckOr o p → p ≡ Some r → x ≡ r → Comes part x next
comes_so part o p r x next is go alike e f = (
  sym is ∙ e ∙ ap (λ (q : Ran). Some q) (sym f),
  subst (λ (q : Ran). Behind q.ended (next q)) (sym f) (behind_plain o p r next go alike e),
)

pub machines_mean : ModulesAreMade → ModulesStart → LoweredEventsMean → TabledCoresGo → SizedModelsAreAlike → AcceptedModelsMeanText → MachinesMeanTexts
machines_mean made_so start_so mean go alike source texts made accepted cycle sized m held found low v over es lets opens past count some few =
    let text : List Def = gathered accepted.definitions in
    let core : CoreModel = core_in accepted cycle in
    let k : Checks = noted_checks_of core sized in
    let before : ℕ = length low.flat.ways in
    let whole : IsWhole false core sized = record { found = found; whole = low.tabled } in
    let apart : NumbersApart core = texts_apart text cycle in
    let goes = go false texts made accepted cycle sized held whole past count some few in
    let options : OptionFirst core.types = options_first text cycle in
    let starts = start_so core sized m apart found low options over es lets opens in
    let same : AreAlike (core_parts plain core) (text_parts (meant_of text cycle)) (IsFit core past count) =
    parts_alike (meant_of text cycle) core past count (of_text text cycle) (source texts made accepted cycle) in
    record {
      start = λ state fit.
          let alike_there = (alike false core sized state).0 in
          let w = went (init_ran (checking k) core state) (init_ran plain core state) _ (goes.1 state fit) alike_there in
          comes_so ((text_parts (meant_of text cycle)).init state) (init_ran (checking k) core state) (init_ran plain core state) w.0
          (initial m.openings es state) (λ ran. IsFit core past count ran.state) (same.init state fit) (goes.1 state fit) alike_there w.2
          (starts state w.0 w.1);
      events = λ first fits ended hart less state fit.
          let end : AllEnd core k = all_end core sized m es first _ (goes.1 first fits) (starts first) ended in
          let parts = goes.0 end in
          let is : IsMade core sized m before lets hart = made_so core sized m apart found low options over es lets opens hart in
          let both = mean texts made accepted cycle sized held whole past count some few end hart less is.made is.is state fit in (
            (λ entry.
                let s = both.1 entry in
                let ws : List Value = V.Integer (pos hart) ∷ V.Bits (bits_of 64 entry) ∷ [] in
                comes_so ((text_parts (meant_of text cycle)).reset hart entry state) (reset_ran (checking k) core hart entry state)
                (reset_ran plain core hart entry state) s.ran (call_ran m v core.types lets hart (before + 1) ws state)
                (λ ran. IsFit core past count ran.state) (same.reset hart entry state fit) (parts.reset hart entry less state fit)
                ((alike false core sized state).1 hart entry) s.plainly
                (call_is m v core.types lets hart (before + 1) ws state s.ran
                (called_there core sized m before lets hart is 0 (before + 1) (first_event before) ws state s.ran s.lowered))),
            (let ws : List Value = V.Unit ∷ [] in
                comes_so ((text_parts (meant_of text cycle)).step hart state) (step_ran (checking k) core hart state) (step_ran plain core hart state)
                both.0.ran (call_ran m v core.types lets hart (before + 3) ws state)
                (λ ran. IsFit core past count (after_step hart ran.ended ran.state)) (same.step hart state fit) (parts.step hart less state fit)
                ((alike false core sized state).2 hart) both.0.plainly
                (call_is m v core.types lets hart (before + 3) ws state both.0.ran
                (called_there core sized m before lets hart is 1 (before + 3) (second_event before) ws state both.0.ran both.0.lowered))),
          );
    }

-- ---- the engine

pub engines_mean : MachinesMeanTexts → EnginesMeanTexts
engines_mean mean texts made accepted m code past count some few =
    let text : List Def = gathered accepted.definitions in
    let cycle : Cycles = code.numbered.cycle in
    let there : CodeMeans (core_of text cycle) m = subst (λ (c : CoreModel). CodeMeans c m) code.numbered.is code.code in
    let held : AllHold (obligations code.core) = as_held (obligations code.core) (core_held code.core code.certified code.closed) in
    let hold : AllHold (obligations (core_of text cycle)) = subst (λ (c : CoreModel). AllHold (obligations c)) code.numbered.is held in
    subst (MeansText text cycle past count) (sym there.is)
    (mean texts made accepted cycle there.sized there.program hold there.sizes there.lowered there.sound blank there.opened there.lets there.opens past count
    some few)
