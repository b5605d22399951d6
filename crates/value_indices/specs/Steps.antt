-- The walk over a definition: a function that hands on the facts in force and the number of the next variable, and writes notes.
use Rattle.std.specs.Prelude.{ℕ, suc, false, List, [], ◌∷◌, ◌++◌, length, drop, Option, Some, None, option_map, unwrap_or}
use Rattle.sail_base.specs.declared.place.Place.{Place}
use Rattle.sail_types.specs.Readings.{together}
use Rattle.sail_types.specs.declared.numbers.Con.{Con}
use Rattle.sail_types.specs.declared.numbers.Con.TheVariants as C
use Rattle.sail_types.specs.declared.numbers.Index.{Index}
use Rattle.sail_core.specs.declared.tree.Callee.{Callee}
use Rattle.sail_core.specs.declared.tree.Giver.{Giver}
use Rattle.value_indices.specs.declared.indices.Indices.{Indices}
use Rattle.value_indices.specs.declared.notes.Fact.{Fact}
use Rattle.value_indices.specs.declared.notes.Fact.TheVariants as Y
use Rattle.value_indices.specs.declared.notes.Made.{Made}
use Rattle.value_indices.specs.declared.indices.Reading.{Reading}

-- ---- what is in force

abbrev pub condition_of : Fact → Option Con
condition_of (Y.Holds c) = Some c
condition_of (Y.IsGiven v) = None

-- the conditions
abbrev pub conditions : List Fact → List Con
conditions [] = []
conditions (Y.Holds c ∷ fs) = c ∷ conditions fs
conditions (Y.IsGiven v ∷ fs) = conditions fs

-- ---- what is noted, each under the facts in force there

pub data Note : Type 0 where
  -- an obligation at a place
  goal_note : List Fact → Place → Con → Note
  -- the sizes of what is made at a place
  size_note : List Fact → Place → Made → Note
  -- the node of this number makes this of its operands
  made_note : List Fact → ℕ → List Indices → Made → Note
  -- the node of this number calls this of its operands, for these numbers and types
  call_note : List Fact → Place → ℕ → List Indices → Callee → List Index → List Reading → Note
  -- a direction of a mapping in a pattern
  way_note : List Fact → ℕ → Note
  -- the numbers of opened variables are given, by a node's value or by what an arm's names hold
  given_note : List Fact → Giver → Indices → Note
  -- a variable has this name
  name_note : ℕ → List ℕ → Note

-- ---- the walk

pub record Went (A : Type 0) : Type 0 where
  pub value : A
  -- those in force, in the order in which they were met
  pub facts : List Fact
  -- the number of the next variable
  pub next : ℕ
  pub notes : List Note

abbrev pub Walk : Type 0 → Type 0
Walk A = List Fact → ℕ → Went A

abbrev pub went : {A : Type 0} → A → List Fact → ℕ → List Note → Went A
went x facts n notes = record { value = x; facts = facts; next = n; notes = notes }

-- nothing but a value
unfoldable pub give : {A : Type 0} → A → Walk A
give x facts n = went x facts n []

abbrev pub behind : {A : Type 0} → List Note → Went A → Went A
behind notes r = went r.value r.facts r.next (notes ++ r.notes)

abbrev pub onward : {A B : Type 0} → Went A → (A → Walk B) → Went B
onward r next = behind r.notes (next r.value r.facts r.next)

-- one walk, then another with what it gives: facts and the next number are handed on, notes appended
unfoldable pub bind : {A B : Type 0} → Walk A → (A → Walk B) → Walk B
bind first next facts n = onward (first facts n) next

-- a note of what is in force
unfoldable pub note : (List Fact → Note) → Walk (Unit {0})
note make facts n = went tt facts n (make facts ∷ [])

-- one condition more is in force
unfoldable pub assume : Con → Walk (Unit {0})
assume c facts n = went tt (facts ++ Y.Holds c ∷ []) n []

-- the number of a variable is noted from here on
unfoldable pub give_number : ℕ → Walk (Unit {0})
give_number v facts n = went tt (facts ++ Y.IsGiven v ∷ []) n []

-- a variable without a name
unfoldable pub fresh : Walk ℕ
fresh facts n = went n facts (suc n) []

-- a variable with a name
unfoldable pub fresh_named : List ℕ → Walk ℕ
fresh_named name facts n = went n facts (suc n) (name_note n name ∷ [])

-- the number of the next variable
unfoldable pub next_variable : Walk ℕ
next_variable facts n = went n facts n []

-- what is in force
unfoldable pub facts_here : Walk (List Fact)
facts_here facts n = went facts facts n []

-- what comes into force inside is in force no more behind it
unfoldable pub scoped : {A : Type 0} → Walk A → Walk A
scoped inner facts n = went (inner facts n).value facts (inner facts n).next (inner facts n).notes

-- a condition that is in force inside alone; what else comes into force there stays
unfoldable pub claimed : {A : Type 0} → Con → Walk A → Walk A
claimed c inner facts n =
    went (inner (facts ++ Y.Holds c ∷ []) n).value (facts ++ drop (suc (length facts)) (inner (facts ++ Y.Holds c ∷ []) n).facts)
    (inner (facts ++ Y.Holds c ∷ []) n).next (inner (facts ++ Y.Holds c ∷ []) n).notes

-- ---- conditions of which some can't be said, since they would hold a number past the largest integer or a product of variables

abbrev pub Conditions : Type 0
Conditions = List (Option Con)

-- such a fact is left out
abbrev pub assume_if : Option Con → Walk (Unit {0})
assume_if None = give tt
assume_if (Some c) = assume c

-- all of them as one condition, which is false where one can't be said
abbrev pub conjunction : Conditions → Con
conjunction cs = unwrap_or (option_map C.All (together cs)) (C.Truth false)

-- an obligation under some facts, unless there is nothing to say
abbrev pub goals_under : List Fact → Place → Conditions → List Note
goals_under facts place [] = []
goals_under facts place (c ∷ cs) = goal_note facts place (conjunction (c ∷ cs)) ∷ []

unfoldable pub owe_under : List Fact → Place → Conditions → Walk (Unit {0})
owe_under earlier place cs facts n = went tt facts n (goals_under earlier place cs)

unfoldable pub owe : Place → Conditions → Walk (Unit {0})
owe place cs facts n = went tt facts n (goals_under facts place cs)

-- what is false: of a part that no model that was resolved has there
abbrev pub wrong : Place → Walk (Unit {0})
wrong place = owe place (Some (C.Truth false) ∷ [])

-- ---- several, one after the other

abbrev pub each : {A B : Type 0} → (A → Walk B) → List A → Walk (List B)
each f [] = give []
each f (x ∷ xs) = bind (f x) (λ y. bind (each f xs) (λ ys. give (y ∷ ys)))

-- for each condition
abbrev pub assume_all : Conditions → Walk (Unit {0})
assume_all [] = give tt
assume_all (c ∷ cs) = bind (assume_if c) (λ t. assume_all cs)
