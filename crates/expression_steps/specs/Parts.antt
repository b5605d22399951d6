-- What is known of a part of an expression, and walks over parts.
use Rattle.std.specs.Prelude.{Bool, List, None, Option, Some, [], ◌∷◌}
use Rattle.sail_base.specs.declared.place.Place.{Place}
use Rattle.sail_types.specs.declared.numbers.Con.{Con}
use Rattle.sail_types.specs.declared.numbers.Num.{Num}
use Rattle.value_indices.specs.Steps.{Walk, assume, bind, give, scoped}
use Rattle.value_indices.specs.declared.indices.Indices.{Indices}
use Rattle.pattern_leaves.specs.Settings.{Around, Scope}
use Rattle.call_notes.specs.Ends.{integer_number, then_integer, wrong_value}
use Rattle.call_arguments.specs.declared.aims.Aim.{Aim}
use Rattle.call_arguments.specs.declared.aims.Aim.TheVariants as Aims
use Rattle.expression_forms.specs.Truths.{then_truth, truth_of}

-- a part of an expression
pub record Part : Type 0 where
  pub place : Place
  -- whether what is wanted of it is owed further in: a block, a `let`, a `var`, an `if`, `match` or `try`
  pub is_nested : Bool
  -- whether it never ends normally
  pub never_ends : Bool
  pub walk : Around → Scope → Aim → Walk Indices
  -- as a statement: the condition, if there is one, that is in force in the rest of its block
  pub state : Around → Scope → Walk (Option Con)

-- ---- so many parts; of others what is false is owed

abbrev pub none : Place → Walk Indices → List Part → Walk Indices
none place w [] = w
none place w parts = wrong_value place

abbrev pub one : Place → (Part → Walk Indices) → List Part → Walk Indices
one place f (a ∷ []) = f a
one place f parts = wrong_value place

abbrev pub two : Place → (Part → Part → Walk Indices) → List Part → Walk Indices
two place f (a ∷ b ∷ []) = f a b
two place f parts = wrong_value place

abbrev pub three : Place → (Part → Part → Part → Walk Indices) → List Part → Walk Indices
three place f (a ∷ b ∷ c ∷ []) = f a b c
three place f parts = wrong_value place

abbrev pub four : Place → (Part → Part → Part → Part → Walk Indices) → List Part → Walk Indices
four place f (a ∷ b ∷ c ∷ d ∷ []) = f a b c d
four place f parts = wrong_value place

-- a first part, and others
abbrev pub led : Place → (Part → List Part → Walk Indices) → List Part → Walk Indices
led place f (a ∷ parts) = f a parts
led place f [] = wrong_value place

-- ---- parts from left to right, each with what is wanted of it; of those behind nothing is

abbrev pub each_walk : List Part → Around → Scope → List Aim → Walk (List Indices)
each_walk [] around scope aims = give []
each_walk (a ∷ parts) around scope [] = bind (a.walk around scope Aims.Free) (λ i. bind (each_walk parts around scope []) (λ is. give (i ∷ is)))
each_walk (a ∷ parts) around scope (aim ∷ aims) = bind (a.walk around scope aim) (λ i. bind (each_walk parts around scope aims) (λ is. give (i ∷ is)))

-- ---- numbers and conditions

-- of an index or a bound nothing is wanted
abbrev pub number_walk : Part → Around → Scope → Walk (Option Num)
number_walk a around scope = bind (a.walk around scope Aims.Free) (integer_number a.place)

-- the number of an index, which may be none that never ends
abbrev pub index_walk : Part → Around → Scope → (Num → Walk Indices) → Walk Indices
index_walk a around scope next = bind (number_walk a around scope) (then_integer next)

-- numbers from left to right, as far as each gives one
abbrev pub number_before : Num → Option (List Num) → Walk (Option (List Num))
number_before n None = give None
number_before n (Some ns) = give (Some (n ∷ ns))

abbrev pub numbers_behind : Walk (Option (List Num)) → Option Num → Walk (Option (List Num))
numbers_behind rest None = give None
numbers_behind rest (Some n) = bind rest (number_before n)

abbrev pub numbers_walk : List Part → Around → Scope → Walk (Option (List Num))
numbers_walk [] around scope = give (Some [])
numbers_walk (a ∷ parts) around scope = bind (number_walk a around scope) (numbers_behind (numbers_walk parts around scope))

abbrev pub truth_walk : Part → Around → Scope → Walk (Option Con)
truth_walk a around scope = bind (a.walk around scope Aims.Free) (truth_of a.place)

-- the condition of an expression
abbrev pub condition_walk : Part → Around → Scope → (Con → Walk Indices) → Walk Indices
condition_walk a around scope next = bind (truth_walk a around scope) (then_truth next)

-- under a condition
abbrev pub under : Con → Part → Around → Scope → Aim → Walk Indices
under c a around scope aim = bind (assume c) (λ t. a.walk around scope aim)

-- what comes into force inside ends with it, the condition too
abbrev pub given_that : Con → Part → Around → Scope → Aim → Walk Indices
given_that c a around scope aim = scoped (under c a around scope aim)
