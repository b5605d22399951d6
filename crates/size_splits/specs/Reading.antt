-- What notes say, read off the steps that write them.
use Rattle.std.specs.Prelude.{ℕ, zero, suc, ℤ, Bool, true, false, ◌||◌, List, [], ◌∷◌, ◌++◌, replicate}
use Rattle.std.specs.Prelude.{Option, Some, None, if◌then◌else◌}
use Rattle.std.specs.Borrow.{Bor}
use Rattle.std.specs.List.{list_any}
use Rattle.sail_types.specs.Places.{first}
use Rattle.sail_types.specs.declared.numbers.Con.{Con}
use Rattle.sail_types.specs.declared.table.Types.{Types}
use Rattle.value_indices.specs.Steps.{Note, conditions}
use Rattle.value_indices.specs.Walking.{Written, step_read, steps_read}
use Rattle.value_indices.specs.declared.indices.Indices.{Indices}
use Rattle.value_indices.specs.declared.indices.Indices.TheVariants as I
use Rattle.value_indices.specs.declared.notes.Fact.{Fact}
use Rattle.value_indices.specs.declared.notes.Step.{Step}
use Rattle.value_indices.specs.declared.notes.Step.TheVariants as S
use Rattle.size_values.specs.declared.constants.Constant.{Constant}
use Rattle.size_values.specs.Numbers.{all_but, known_at}
use Rattle.size_values.specs.Sizes.{is_one_open, value_sizes}
use Rattle.size_splits.specs.Sizing.{Sizing, given_indices, is_open_index, is_open_reading, made_facts, made_indices, names_type}
use Rattle.size_splits.specs.Splits.{count_with, domain}

-- what a list of conditions points to
abbrev pub pointed : Bor Con → Con
pointed c = c.now

-- the notes that steps write behind what is written down
abbrev pub notes_behind : Written → List Step → List Note
notes_behind w steps = (steps_read (record w { notes = [] }) steps).notes

-- the type variable that a step names, and whether a step notes nothing but a name
abbrev pub type_named : Step → Option ℕ
type_named (S.Names v name) = if names_type name then Some v else None
type_named step = None

abbrev pub is_passed : Step → Bool
is_passed (S.Names v name) = true
is_passed (S.Assumes fact) = true
is_passed S.Remembers = true
is_passed S.Restores = true
is_passed S.Forgets = true
is_passed (S.Claims c) = true
is_passed S.Unclaims = true
is_passed step = false

-- the first type variable that is named before anything else is noted
abbrev pub named_in : List Step → Option ℕ
named_in [] = None
named_in (step ∷ steps) = first (type_named step) (if is_passed step then named_in steps else None)

-- the indices that a step makes whose sizes are noted, and the facts that it opens
abbrev pub step_value : ℕ → Step → Option ℕ → Indices
step_value beyond (S.Sizes place made) named = made_indices beyond made named
step_value beyond step named = I.Never

abbrev pub step_facts : ℕ → Step → Option ℕ → List Fact
step_facts beyond (S.Sizes place made) named = made_facts beyond made named
step_facts beyond step named = []

-- whether something isn't constant that has to be at a step that makes this, where the variables are these
abbrev pub is_open_value : Types → Sizing → (ℕ → Constant) → Step → Indices → Bool
is_open_value types sizing of (S.Sizes place made) i = is_one_open (value_sizes types of i)
is_open_value types sizing of (S.Calls place k operands callee js qs) i =
    list_any (is_open_index of) (given_indices sizing callee operands js) || list_any (is_open_reading types of) qs
is_open_value types sizing of step i = false

-- whether a variable is in it
abbrev pub value_names : Types → Sizing → ℕ → Step → Indices → Bool
value_names types sizing v = is_open_value types sizing (known_at (all_but v))

abbrev pub step_names : Types → Sizing → ℕ → ℕ → Step → Option ℕ → Bool
step_names types sizing beyond v step named = value_names types sizing v step (step_value beyond step named)

abbrev pub in_steps : Types → Sizing → ℕ → ℕ → List Step → Bool
in_steps types sizing beyond v [] = false
in_steps types sizing beyond v (step ∷ steps) =
    step_names types sizing beyond v step (named_in steps) || in_steps types sizing beyond v steps

-- the numbers that a variable takes under these conditions, if it is in it
abbrev pub value_domain : Types → Sizing → (ℕ → Constant) → ℕ → List Con → Step → Indices → Option (List ℤ)
value_domain types sizing of v cs step i = if value_names types sizing v step i then domain of v cs else None

-- what is in force at a step, and what it opens itself
abbrev pub step_conditions : ℕ → List Fact → Step → Option ℕ → List Con
step_conditions beyond facts step named = conditions (facts ++ step_facts beyond step named)

abbrev pub is_open_step : Types → Sizing → ℕ → (ℕ → Constant) → Step → Option ℕ → Bool
is_open_step types sizing beyond of step named = is_open_value types sizing of step (step_value beyond step named)

abbrev pub step_domain : Types → Sizing → ℕ → (ℕ → Constant) → ℕ → List Fact → Step → Option ℕ → Option (List ℤ)
step_domain types sizing beyond of v facts step named =
    if is_open_step types sizing beyond of step named
    then value_domain types sizing of v (step_conditions beyond facts step named) step (step_value beyond step named) else None

abbrev pub steps_domain : Types → Sizing → ℕ → (ℕ → Constant) → ℕ → Written → List Step → Option (List ℤ)
steps_domain types sizing beyond of v w [] = None
steps_domain types sizing beyond of v w (step ∷ steps) =
    first (step_domain types sizing beyond of v w.facts step (named_in steps)) (steps_domain types sizing beyond of v (step_read w step) steps)

-- ---- for each of several variables, from this one on

abbrev pub value_domains : Types → Sizing → (ℕ → Constant) → ℕ → ℕ → List Con → Step → Indices → List (Option (List ℤ))
value_domains types sizing of zero v cs step i = []
value_domains types sizing of (suc count) v cs step i =
    value_domain types sizing of v cs step i ∷ value_domains types sizing of count (suc v) cs step i

abbrev pub step_domains : Types → Sizing → ℕ → (ℕ → Constant) → ℕ → ℕ → List Fact → Step → Option ℕ → List (Option (List ℤ))
step_domains types sizing beyond of count v facts step named =
    if is_open_step types sizing beyond of step named
    then value_domains types sizing of count v (step_conditions beyond facts step named) step (step_value beyond step named)
    else replicate count None

abbrev pub steps_domains : Types → Sizing → ℕ → (ℕ → Constant) → ℕ → ℕ → Written → List Step → List (Option (List ℤ))
steps_domains types sizing beyond of zero v w steps = []
steps_domains types sizing beyond of (suc count) v w steps =
    steps_domain types sizing beyond of v w steps ∷ steps_domains types sizing beyond of count (suc v) w steps

-- the first of each
abbrev pub each_first : {A : Type 0} → List (Option A) → List (Option A) → List (Option A)
each_first (o ∷ os) (p ∷ ps) = first o p ∷ each_first os ps
each_first os ps = []

-- a variable that is split, and how many combinations there are then
abbrev pub taken_here : ℕ → Option ℕ → List ℕ
taken_here v None = []
taken_here v (Some m) = v ∷ []

abbrev pub count_after : ℕ → Option ℕ → ℕ
count_after n None = n
count_after n (Some m) = m

-- those that are split, by the numbers that each takes
abbrev pub splits_by : ℕ → ℕ → List (Option (List ℤ)) → List ℕ
splits_by v n [] = []
splits_by v n (o ∷ os) = taken_here v (count_with n o) ++ splits_by (suc v) (count_after n (count_with n o)) os
