-- The machine's run, as runs of code. Whatever was accessed before, something was accessed after.
use Rattle.std.specs.Prelude.{◌≡◌, ℕ, ◌+◌, ◌-◌, ◌*◌, ◌≤◌, ◌<◌, List, [], ◌∷◌, Option, Some, None, slice_get, slice_index_or, reverse}
use Rattle.sail_types.specs.declared.values.Value.{Value}
use Rattle.model_state.specs.RunState.{RunState, Access}
use Rattle.jib.specs.declared.code.Instruction.TheVariants as I
use Rattle.jib.specs.declared.code.Module.{Module}
use Rattle.jib.specs.Jib.{Outcome, Gives, Throws, Stops, Enter, acts, put, code_of, at, Runs, jib_run}
use Rattle.jib.specs.Openings.{begun}
use Rattle.jib.proofs.Ticking.{Targets, Calls, Ticking, rank, worth, weight, limit}
use Rattle.jib_machine.specs.declared.act.Ending.{Ending}
use Rattle.jib_machine.specs.declared.act.Here.{Here}
use Rattle.jib_machine.specs.declared.act.Frame.{Frame}
use Rattle.jib_machine.specs.declared.act.Current.{Current}
use Rattle.jib_machine.specs.declared.act.Turn.{Turn}
use Rattle.jib_machine.specs.declared.act.Turn.TheVariants as U
use Rattle.jib_values.specs.Sources.{filled}
use Rattle.jib_machine.specs.parts.Begun.{store}
use Rattle.jib_machine.specs.parts.Unread.{Begins}
use Rattle.jib_machine.specs.parts.Acts.{seen, outcome_of}

-- the table of a function: where the instruction at each place may jump to
abbrev pub table_of : List (List ℕ) → ℕ → List ℕ
table_of places f = slice_index_or places f []

-- the tables have the places of the labels that are jumped to, and no code runs on without a tick
pub record Ready (m : Module) (places : List (List ℕ)) : Type 0 where
  pub finds : (f pc l : ℕ) → Targets (at (code_of m f) pc) l
      → slice_get (code_of m f) (slice_index_or (table_of places f) pc 0) ≡ Some (I.Label l)
  pub ticks : Ticking m.functions

-- what is left of a function's run
abbrev pub remains : Module → ℕ → ℕ → ℕ → ℕ
remains m f pc k = k * limit m.functions + weight m.functions f pc

module _ (m : Module) (ls : List Value) (hart : ℕ) where
  -- where a call that runs stands, it ends so
  abbrev pub RunsOn : Current → RunState → ℕ → List Access → Outcome → Type 0
  RunsOn cur s k xs r = Runs m ls hart (seen cur.here) cur.at (filled cur.slots.items) (store s k xs) r

  -- a run from one place goes on from another, where no more is left
  pub record Along (cur0 : Current) (s : RunState) (k : ℕ) (cur : Current) (t : RunState) (n : ℕ) : Type 0 where
    pub by : (xs : List Access) → (ys : List Access) × ((r : Outcome) → RunsOn cur t n ys r → RunsOn cur0 s k xs r)
    pub function : cur.here.function ≡ cur0.here.function
    pub no_more : remains m cur.here.function cur.at n ≤ remains m cur0.here.function cur0.at k
    pub ticks : n ≤ k

  -- what the run of a function comes to first: its end, or a call
  abbrev pub Turned : Current → RunState → ℕ → Turn → Current → RunState → ℕ → Type 0
  Turned cur s k (U.Over e) cur' t n = ((xs : List Access) → (ys : List Access) × RunsOn cur s k xs (outcome_of e (store t n ys))) × (n ≤ k)
  Turned cur s k (U.Enter i f slots l p) cur' t n =
      (vs : List Value) × Along cur s k cur' t n
      × ((xs : List Access) → acts m ls hart (seen cur'.here) cur'.at (filled cur'.slots.items) (store t n xs) ≡ Enter i f vs l p)
      × Begins m f vs slots.items

-- where a run began
pub record Start : Type 0 where
  pub function : ℕ
  pub arguments : List Value
  pub state : RunState
  pub ticks : ℕ

-- each frame waits at a call
abbrev pub Saved : Module → List Frame → Type 0
Saved m [] = Unit {0}
Saved m (fr ∷ frs) = ((g : ℕ) × Calls (at (code_of m fr.current.here.function) fr.current.at) g fr.label) × Saved m frs

abbrev pub frames_left : Module → List Frame → ℕ
frames_left m [] = 0
frames_left m (fr ∷ frs) =
    (rank (code_of m fr.current.here.function) fr.current.at - 1) * worth m.functions fr.current.here.function + frames_left m frs

-- what is left to be done
abbrev pub left : Module → Current → List Frame → ℕ → ℕ
left m cur frames k = remains m cur.here.function cur.at k + frames_left m (reverse frames)

module _ (m : Module) (ls : List Value) (hart : ℕ) where
  abbrev pub Runs_from : Start → Outcome → Type 0
  Runs_from b r = jib_run m ls hart b.function b.arguments (begun b.ticks b.state) r

  -- what an end of the called function leads to
  abbrev pub Leads : Start → List Frame → Outcome → Type 0
  Leads b [] r = Runs_from b r
  Leads b (fr ∷ frs) (Gives v t) =
      (r : Outcome) → Runs m ls hart (seen fr.current.here) (fr.current.at + 1) (put (filled fr.current.slots.items) fr.slot v) t r → Leads b frs r
  Leads b (fr ∷ frs) (Throws v t) =
      (p : ℕ) → slice_get (code_of m fr.current.here.function) p ≡ Some (I.Label fr.label)
      → (r : Outcome) → Runs m ls hart (seen fr.current.here) p (put (filled fr.current.slots.items) 0 v) t r → Leads b frs r
  Leads b (fr ∷ frs) (Stops w t) = Runs_from b (Stops w t)

  pub record Going (b : Start) (cur : Current) (frames : List Frame) (s : RunState) (k : ℕ) : Type 0 where
    pub accesses : List Access
    pub by : (r : Outcome) → RunsOn m ls hart cur s k accesses r → Leads b (reverse frames) r

  -- the run has come to this end
  abbrev pub Came : Start → Ending → RunState → ℕ → Type 0
  Came b e s k = (xs : List Access) × Runs_from b (outcome_of e (store s k xs))

  -- the run goes on
  pub record Went (cur : Current) (frames : List Frame) (s : RunState) (k : ℕ) (cur' : Current) (frames' : List Frame) (s' : RunState) (k' : ℕ)
      : Type 0 where
    pub going : (b : Start) → Going b cur frames s k → Going b cur' frames' s' k'
    pub saved : Saved m (reverse frames')
    pub less : left m cur' frames' k' < left m cur frames k

  abbrev pub Advanced : Current → List Frame → RunState → ℕ → Current → List Frame → RunState → ℕ → Option Ending → Type 0
  Advanced cur frames s k cur' frames' s' k' None = Went cur frames s k cur' frames' s' k'
  Advanced cur frames s k cur' frames' s' k' (Some e) = (b : Start) → Going b cur frames s k → Came b e s' k'

  -- the run goes on in the function that waits
  pub record Returned (frames : List Frame) (s : RunState) (k : ℕ) (e : Ending) (cur' : Current) (frames' : List Frame) : Type 0 where
    pub going : (b : Start) (xs : List Access) → Leads b (reverse frames) (outcome_of e (store s k xs)) → Going b cur' frames' s k
    pub saved : Saved m (reverse frames')
    pub less : weight m.functions cur'.here.function cur'.at + frames_left m (reverse frames') < frames_left m (reverse frames)

  abbrev pub Finished : List Frame → RunState → ℕ → Ending → Current → List Frame → Option Ending → Type 0
  Finished frames s k e cur' frames' None = Returned frames s k e cur' frames'
  Finished frames s k e cur' frames' (Some e') =
      (b : Start) (xs : List Access) → Leads b (reverse frames) (outcome_of e (store s k xs)) → Came b e' s k
