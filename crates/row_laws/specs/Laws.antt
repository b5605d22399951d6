-- A builtin beside the walk of its call: it isn't stuck, and what it gives has the indices that the walk takes to be known of it (Sail language
-- manual, "Integers", "Bitvectors", "Vectors").
use Rattle.std.specs.Prelude.{◌≡◌, ℕ, Bool, true, false, List, ◌∷◌, map}
use Rattle.sail_base.specs.declared.place.Place.{Place}
use Rattle.sail_types.specs.Belongs.{Reading as Closed}
use Rattle.sail_types.specs.Numbers.{Assignment, Positive}
use Rattle.sail_types.specs.declared.rows.Row.{Row}
use Rattle.sail_types.specs.declared.rows.Row.TheVariants as R
use Rattle.sail_types.specs.declared.table.Types.{Types}
use Rattle.sail_types.specs.declared.values.Value.{Value}
use Rattle.sail_core.specs.Run as U
use Rattle.sail_core.specs.Run.{Now, Ended, row_run}
use Rattle.value_indices.specs.declared.indices.Indices.{Indices}
use Rattle.value_indices.specs.declared.notes.Fact.{Fact}
use Rattle.value_indices.specs.Steps.{Walk}
use Rattle.value_laws.specs.Belonging.{Integers, Meant, standing, meant, is_of, each_holds}
use Rattle.value_laws.specs.Known.{Point, Agree, InForce, Goes, given_in}
use Rattle.wide_types.specs.Widening.{widened}
use Rattle.call_notes.specs.Rows.{row_call}
use Rattle.row_laws.specs.Met.{AllMet}

-- ---- how the run of a builtin ends

-- names in scope, ticks, the numbers that are noted and the registers of each hart are as they were
pub record Stays {X : Type 0} (now after : Now X) : Type 0 where
  pub locals : after.locals ≡ now.locals
  pub ticks : after.ticks ≡ now.ticks
  pub opened : after.opened ≡ now.opened
  pub registers : map (λ h. h.registers) after.state.harts ≡ map (λ h. h.registers) now.state.harts

-- it gives a value of which this holds, or it stops the run
abbrev pub Ends : {X : Type 0} → (Value → Type 0) → Now X → Ended X Value → Type 0
Ends P now (U.Gives v after) = P v × Stays now after
Ends P now (U.Stops cause after) = Stays now after
Ends P now end = ⊥

-- ---- what is known of arguments

-- they have their indices, which mean one and the same whatever variables stand for that aren't fixed
pub record HaveIndices (types : Types) (past : Positive) (own : List Closed) {n : ℕ} (f : Point n) (is : List Indices) (vs : List Value) : Type 0 where
  pub meanings : List Meant
  pub steady : (g : Integers) → Agree f g → map (meant types (standing past g) own) is ≡ meanings
  pub held : each_holds meanings vs ≡ true

-- the second is of the widened type of its indices
abbrev pub second_widens : Types → Assignment → List Closed → List Indices → List Value → Bool
second_widens types mu own (i ∷ j ∷ is) (v ∷ w ∷ vs) = is_of types mu own (widened j) w
second_widens types mu own is vs = false

-- that is asked where a vector is made of so many times a value
abbrev pub Widens : Row → Types → Positive → List Closed → {n : ℕ} → Point n → List Indices → List Value → Type 0
Widens R.VectorInit types past own f is vs = second_widens types (standing past f.integers) own is vs ≡ true
Widens row types past own f is vs = Unit {0}

-- ---- builtins

-- a value with the indices that a walk gives, which mean one and the same, for some integers of the walk's new variables with which all that
-- comes into force is true
abbrev pub IsKnown : Types → Positive → List Closed → (n : ℕ) → Point n → List Fact → Walk Indices → Value → Type 0
IsKnown types past own n f facts walk v =
    (m : Meant) × (m.holds v ≡ true) × Goes past n f facts walk (λ g i. meant types (standing past g) own i ≡ m)

-- where what is in force is true and the notes of the walk are met, a builtin is never stuck
abbrev pub RowsAreSound : Type 0
RowsAreSound =
    (types : Types) (past : Positive) (own : List Closed) (place : Place) (row : Row) (is : List Indices) (n : ℕ) (f : Point n) (facts : List Fact)
    (vs : List Value) → HaveIndices types past own f is vs → Widens row types past own f is vs
    → ((g : Integers) → Agree f g → InForce past g facts)
    → ((g : Integers) → Agree f g → AllMet past (given_in facts) g (row_call types place row is facts n).notes)
    → (hart : ℕ) (now : Now Value) → Ends (IsKnown types past own n f facts (row_call types place row is)) now (row_run row hart vs now)
