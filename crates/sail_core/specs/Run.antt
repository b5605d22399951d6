-- What a piece of a run comes to, and how pieces are put one behind the other. The source and the core speak of runs in these words.
use Rattle.std.specs.Prelude.{ℕ, zero, suc, ℤ, Bool, true, false, List, [], ◌∷◌, ◌++◌, length, drop, Option, Some, None, if◌then◌else◌}
use Rattle.std.specs.Str.{bytes_eq}
use Rattle.sail_types.specs.declared.values.Value.{Value}
use Rattle.sail_types.specs.declared.rows.Row.{Row}
use Rattle.model_state.specs.declared.cause.Cause.{Cause}
use Rattle.model_state.specs.declared.cause.Cause.TheVariants.{WorkLimit}
use Rattle.model_state.specs.declared.cause.Ended.{Ended as EndOfRow}
use Rattle.model_state.specs.declared.cause.Ended.TheVariants as E
use Rattle.model_state.specs.RunState.{RunState, Access, Ran}
use Rattle.model_state.specs.StateRows.{state_row}
use Rattle.row_types.specs.Calls.{has_state}
use Rattle.row_types.specs.RowValues.{row}

-- X is what stands for a value while a function is at work. In the meaning of a model it is the value itself; in other readings
-- of the same text it is a value with more beside it.

-- a name in scope, with what it is bound to
pub record Local (X : Type 0) : Type 0 where
  pub name : List ℕ
  pub held : X

-- all that a run changes: the names in scope in the function at work, the newest first; the ticks that are left; the state of the
-- machine; the accesses so far; and the numbers of opened variables, which only other readings than the meaning ever set
pub record Now (X : Type 0) : Type 0 where
  pub locals : List (Local X)
  pub ticks : ℕ
  pub state : RunState
  pub accesses : List Access
  pub opened : ℕ → Option ℤ

-- how a piece of a run ends: it gives something; it says No (a pattern that doesn't match, a guard that is false, an arm that isn't
-- taken); it returns from its function; it throws; it stops the run; or it is stuck
pub data Ended (X A : Type 0) : Type 0 where
  Gives : A → Now X → Ended X A
  No : Now X → Ended X A
  Returns : Value → Now X → Ended X A
  Throws : Value → Now X → Ended X A
  Stops : Cause → Now X → Ended X A
  Stuck : Ended X A

abbrev pub Run : Type 0 → Type 0 → Type 0
Run X A = Now X → Ended X A

abbrev pub gives : {X A : Type 0} → A → Run X A
gives x now = Gives x now

abbrev pub falls : {X A : Type 0} → Run X A
falls now = No now

abbrev pub returns : {X A : Type 0} → Value → Run X A
returns v now = Returns v now

abbrev pub throws : {X A : Type 0} → Value → Run X A
throws v now = Throws v now

abbrev pub stops : {X A : Type 0} → Cause → Run X A
stops cause now = Stops cause now

abbrev pub stuck : {X A : Type 0} → Run X A
stuck now = Stuck

-- ---- one behind the other

-- goes on with what a piece gives, and hands on all else
abbrev pub goes_on : {X A B : Type 0} → Ended X A → (A → Run X B) → Ended X B
goes_on (Gives x now) next = next x now
goes_on (No now) next = No now
goes_on (Returns v now) next = Returns v now
goes_on (Throws v now) next = Throws v now
goes_on (Stops cause now) next = Stops cause now
goes_on Stuck next = Stuck

-- one piece, then the next with what it gives
infixr 20 ◌then◌
abbrev pub ◌then◌ : {X A B : Type 0} → Run X A → (A → Run X B) → Run X B
(first then next) now = goes_on (first now) next

abbrev pub or_so : {X A : Type 0} → Ended X A → Run X A → Ended X A
or_so (Gives x now) next = Gives x now
or_so (No now) next = next now
or_so (Returns v now) next = Returns v now
or_so (Throws v now) next = Throws v now
or_so (Stops cause now) next = Stops cause now
or_so Stuck next = Stuck

-- one piece, and where it says No another one
infixr 15 ◌or_else◌
abbrev pub ◌or_else◌ : {X A : Type 0} → Run X A → Run X A → Run X A
(first or_else next) now = or_so (first now) next

-- what is thrown goes to another piece; nothing of what was done is taken back
abbrev pub caught : {X A : Type 0} → Ended X A → (Value → Run X A) → Ended X A
caught (Gives x now) catch = Gives x now
caught (No now) catch = No now
caught (Returns v now) catch = Returns v now
caught (Throws v now) catch = catch v now
caught (Stops cause now) catch = Stops cause now
caught Stuck catch = Stuck

-- the end of a call: what is returned is its value
abbrev pub returned : {X : Type 0} → Ended X Value → Ended X Value
returned (Gives v now) = Gives v now
returned (No now) = No now
returned (Returns v now) = Gives v now
returned (Throws v now) = Throws v now
returned (Stops cause now) = Stops cause now
returned Stuck = Stuck

-- what is there, or stuck
abbrev pub needs : {X A : Type 0} → Option A → Run X A
needs None = stuck
needs (Some x) = gives x

abbrev pub if_so : {X A : Type 0} → Run X A → Run X A → Bool → Run X A
if_so a b true = a
if_so a b false = b

-- pieces from left to right, each with what it gives
abbrev pub in_turn : {X A : Type 0} → List (Run X A) → Run X (List A)
in_turn [] = gives []
in_turn (first ∷ others) = first then λ x. in_turn others then λ xs. gives (x ∷ xs)

-- ---- names

-- changes what a piece leaves, however it ends
abbrev pub leaving : {X A : Type 0} → (Now X → Now X) → Ended X A → Ended X A
leaving change (Gives x now) = Gives x (change now)
leaving change (No now) = No (change now)
leaving change (Returns v now) = Returns v (change now)
leaving change (Throws v now) = Throws v (change now)
leaving change (Stops cause now) = Stops cause (change now)
leaving change Stuck = Stuck

abbrev pub local : {X : Type 0} → List ℕ → X → Local X
local name x = record { name = name; held = x }

-- a piece with further names in scope, which are gone behind it
abbrev pub within : {X A : Type 0} → List (Local X) → Run X A → Run X A
within new piece now =
    leaving (λ after. record after { locals = drop (length new) after.locals })
    (piece (record now { locals = new ++ now.locals }))

-- a piece without the names in scope and what was opened there, both of which are back behind it
abbrev pub apart : {X A : Type 0} → Run X A → Run X A
apart piece now =
    leaving (λ after. record after { locals = now.locals; opened = now.opened })
    (piece (record now { locals = []; opened = λ i. None }))

-- what the newest local of a name is bound to
abbrev pub held_in : {X : Type 0} → List ℕ → List (Local X) → Option X
held_in name [] = None
held_in name (first ∷ others) = if bytes_eq first.name name then Some first.held else held_in name others

abbrev pub kept : {X : Type 0} → Local X → Option (List (Local X)) → Option (List (Local X))
kept first None = None
kept first (Some others) = Some (first ∷ others)

-- the newest local of a name bound to something else; none where there is none of this name
abbrev pub changed_in : {X : Type 0} → List ℕ → X → List (Local X) → Option (List (Local X))
changed_in name x [] = None
changed_in name x (first ∷ others) =
    if bytes_eq first.name name then Some (local first.name x ∷ others) else kept first (changed_in name x others)

-- ---- ticks

abbrev pub tick_at : {X : Type 0} → ℕ → Run X (Unit {0})
tick_at zero now = Stops WorkLimit now
tick_at (suc n) now = Gives tt (record now { ticks = n })

-- takes a tick; where none is left, the run stops
abbrev pub tick : {X : Type 0} → Run X (Unit {0})
tick now = tick_at now.ticks now

-- ---- builtins

abbrev pub ended_as : {X : Type 0} → EndOfRow → Run X Value
ended_as (E.Value v) now = Gives v now
ended_as (E.Stop cause) now = Stops cause now

-- what a builtin of the state came to; the run is stuck where its condition fails
abbrev pub after_row : {X : Type 0} → Option Ran → Run X Value
after_row None now = Stuck
after_row (Some ran) now = ended_as ran.ended (record now { state = ran.state; accesses = now.accesses ++ ran.accesses })

-- a builtin, called by a hart on values
abbrev pub row_run : {X : Type 0} → Row → ℕ → List Value → Run X Value
row_run r hart vs now = if has_state r then after_row (state_row r hart now.state vs) now else needs (row r vs) now
