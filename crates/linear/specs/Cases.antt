-- The cases of a problem: how its facts can be true and its goal false.
use Rattle.std.specs.Prelude.{
  ◌≡◌,
  ◌⊎◌,
  ℕ,
  zero,
  suc,
  ◌-◌,
  ◌^◌,
  min,
  nat_lt,
  Bool,
  true,
  false,
  not,
  ◌&&◌,
  List,
  [],
  ◌∷◌,
  ◌++◌,
  map,
  length,
  ℤ,
  pos,
  Option,
  Some,
  None,
  Result,
  Ok,
  Err,
  if◌then◌else◌,
  int_lt,
}
use Rattle.std.specs.List.{fold, list_any, flat_map}
use Rattle.sail_types.specs.declared.numbers.Atom.{Atom}
use Rattle.sail_types.specs.declared.numbers.Con.{Con}
use Rattle.linear.specs.declared.choice.Choice.{Choice, Choice-F, fold-Choice}
use Rattle.linear.specs.declared.choice.Choice.TheOpen as O
use Rattle.linear.specs.declared.row.Row.{Row}
use Rattle.linear.specs.declared.problem.Problem.{Problem}
use Rattle.linear.specs.declared.problem.LinearError.{LinearError}
use Rattle.linear.specs.declared.problem.LinearError.TheVariants.{NumberLimit, CaseLimit, OutOfMemory}
use Rattle.linear.specs.Rows.{is_constant}
use Rattle.linear.specs.Choices.{joined, all_of, variables_in, with_atom, choice_of}

-- a row without variables that isn't true
abbrev pub is_false : Row → Bool
is_false row = is_constant row && int_lt row.bound (pos 0)

-- each of the first alternatives with each of the others, which vary faster
abbrev pub together : List (List Row) → List (List Row) → List (List Row)
together first rest = flat_map (λ (rows : List Row). map (λ (more : List Row). rows ++ more) rest) first

-- one alternative of each, the first varying slowest
abbrev pub product : List (List (List Row)) → List (List Row)
product [] = [] ∷ []
product (first ∷ rest) = together first (product rest)

-- the alternatives of a choice; where asked, those with a false row are left out
abbrev pub alternatives_step : Bool → Choice-F (List (List Row)) → List (List Row)
alternatives_step cut (O.Rows rows) = if cut && list_any is_false rows then [] else rows ∷ []
alternatives_step cut (O.All parts) = product parts
alternatives_step cut (O.Any parts) = joined parts

abbrev pub alternatives : Bool → Choice → List (List Row)
alternatives cut = fold-Choice (List (List Row)) (alternatives_step cut)

-- the variables of a problem, in order of first appearance: those of its facts, then those of its goal
abbrev pub variables_of : Problem → List Atom
variables_of problem = fold with_atom [] (joined (map variables_in problem.facts) ++ variables_in problem.goal)

-- what makes the facts true, and the goal false
abbrev pub fact_choices : Problem → Option (List Choice)
fact_choices problem = all_of (map (λ fact. choice_of (variables_of problem) fact true) problem.facts)

abbrev pub goal_choice : Problem → Option Choice
goal_choice problem = choice_of (variables_of problem) problem.goal false

-- each of the last rows behind each of the others, which vary faster
abbrev pub behind : List (List Row) → List (List Row) → List (List Row)
behind all lasts = flat_map (λ (last : List Row). map (λ (rows : List Row). rows ++ last) all) lasts

-- each alternative of the negated goal behind each choice of the facts' alternatives
abbrev pub combined : List Choice → Choice → List (List Row)
combined facts goal = behind (product (map (alternatives false) facts)) (alternatives true goal)

-- at most so many cases are looked at
abbrev pub most_cases : ℕ
most_cases = 64

-- a count, cut off at 2^64 - 1
unfoldable pub capped : ℕ → ℕ
capped n = min n (2 ^ 64 - 1)

abbrev pub within_cases : List (List Row) → Result (List (List Row)) LinearError
within_cases cases = if nat_lt most_cases (length cases) then Err (CaseLimit (capped (length cases))) else Ok cases

abbrev pub cases_from : Option (List Choice) → Option Choice → Result (List (List Row)) LinearError
cases_from (Some facts) (Some goal) = within_cases (combined facts goal)
cases_from (Some facts) None = Err NumberLimit
cases_from None goal = Err NumberLimit

-- the cases of a problem, or the limit that it passes
abbrev pub cases_of : Problem → Result (List (List Row)) LinearError
cases_of problem = cases_from (fact_choices problem) (goal_choice problem)

-- an answer is that of the definition, or memory is wanting
abbrev pub IsCases : Result (List (List Row)) LinearError → Result (List (List Row)) LinearError → Type 0
IsCases result answer = (result ≡ answer) ⊎ (result ≡ Err OutOfMemory)
