-- What is kept of facts: their variables, and of each of their alternatives the rows that are kept of a case that begins with it.
use Rattle.std.specs.Prelude.{ℕ, ◌*◌, ◌==◌, List, [], ◌∷◌, ◌++◌, map, length, true, false, Option, Some, None}
use Rattle.std.specs.Prelude.{Result, Ok, Err, if◌then◌else◌, nat_lt, ◌≡◌}
use Rattle.std.specs.List.{fold, flat_map}
use Rattle.sail_types.specs.declared.numbers.Atom.{Atom}
use Rattle.sail_types.specs.declared.numbers.Con.{Con}
use Rattle.linear.specs.declared.choice.Choice.{Choice}
use Rattle.linear.specs.declared.row.Row.{Row}
use Rattle.linear.specs.Choices.{all_of, joined, variables_in, with_atom, choice_of}
use Rattle.linear.specs.Cases.{product, alternatives, capped, most_cases}
use Rattle.farkas.specs.declared.keeping.Starts.{Starts}
use Rattle.farkas.specs.declared.verdict.Verdict.{Verdict}
use Rattle.farkas.specs.declared.verdict.Verdict.TheVariants.{Closed}
use Rattle.farkas.specs.declared.verdict.FarkasError.{FarkasError}
use Rattle.farkas.specs.declared.verdict.FarkasError.TheVariants.{NumberLimit, CaseLimit}
use Rattle.farkas.specs.Keeping.{starts, started, AreFew}
use Rattle.farkas.specs.Verdicts.{eliminated_starts}
use Rattle.entail.specs.declared.alternatives.Alternatives.{Alternatives}
use Rattle.entail.specs.declared.alternatives.Alternatives.TheVariants.{Listed, TooMany, NumberPast}
use Rattle.entail.specs.declared.level.Level.{Level}
use Rattle.entail.specs.declared.level.Prefix.{Prefix}

-- the variables of facts, in order of first appearance
abbrev pub atoms_of : List Con → List Atom
atoms_of facts = fold with_atom [] (joined (map variables_in facts))

-- what makes each of several facts true
abbrev pub choices_of : List Atom → List Con → Option (List Choice)
choices_of atoms facts = all_of (map (λ fact. choice_of atoms fact true) facts)

-- what is kept of alternatives
abbrev pub kept_of : List (List Row) → Alternatives
kept_of all = if nat_lt most_cases (length all) then TooMany (capped (length all)) else Listed (map starts all)

abbrev pub alternatives_of : Option (List Choice) → Alternatives
alternatives_of None = NumberPast
alternatives_of (Some choices) = kept_of (product (map (alternatives false) choices))

-- what is kept of facts
abbrev pub level_of : List Con → Level
level_of facts = record { atoms = atoms_of facts; alternatives = alternatives_of (choices_of (atoms_of facts) facts) }

-- the facts of prefixes, each of which has one more
abbrev pub facts_of : List Prefix → List Con
facts_of prefixes = map (λ (p : Prefix). p.fact) prefixes

-- each prefix keeps what these facts and those up to its own say
abbrev pub AreKept : List Con → List Prefix → Type 0
AreKept before [] = Unit {0}
AreKept before (p ∷ ps) = (p.level ≡ level_of (before ++ p.fact ∷ [])) × AreKept (before ++ p.fact ∷ []) ps

-- ---- one more fact

-- the rows that are kept of each with each of some more, which vary faster
abbrev pub each_with : List Starts → List (List Row) → List Starts
each_with firsts more = flat_map (λ (s : Starts). map (λ (rows : List Row). fold started s rows) more) firsts

abbrev pub many_with : ℕ → ℕ → Alternatives
many_with count more = if more == 0 then Listed [] else TooMany (capped (count * more))

abbrev pub listed_with : List Starts → List (List Row) → Alternatives
listed_with firsts more =
    if nat_lt most_cases (length firsts * length more) then TooMany (capped (length firsts * length more)) else Listed (each_with firsts more)

-- alternatives with one more choice, if it is there
abbrev pub with_choice : Alternatives → Option Choice → Alternatives
with_choice first None = NumberPast
with_choice NumberPast (Some choice) = NumberPast
with_choice (TooMany count) (Some choice) = many_with count (capped (length (alternatives false choice)))
with_choice (Listed firsts) (Some choice) = listed_with firsts (alternatives false choice)

-- ---- a goal

-- the rows that are kept of each with some more, which vary slower
abbrev pub each_before : List Starts → List (List Row) → List Starts
each_before firsts lasts = flat_map (λ (last : List Row). map (λ (s : Starts). fold started s last) firsts) lasts

abbrev pub many_answer : ℕ → Result Verdict FarkasError
many_answer total = if total == 0 then Ok (Closed (record { cases = [] })) else Err (CaseLimit total)

abbrev pub listed_answer : ℕ → List Starts → List (List Row) → Result Verdict FarkasError
listed_answer variables firsts lasts =
    if nat_lt most_cases (length firsts * length lasts)
    then Err (CaseLimit (capped (length firsts * length lasts)))
    else eliminated_starts variables (each_before firsts lasts)

-- the answer where so many variables, alternatives of the facts and what makes the goal false are there
abbrev pub answer_to : ℕ → Alternatives → Option Choice → Result Verdict FarkasError
answer_to variables first None = Err NumberLimit
answer_to variables NumberPast (Some choice) = Err NumberLimit
answer_to variables (TooMany count) (Some choice) = many_answer (capped (count * capped (length (alternatives true choice))))
answer_to variables (Listed firsts) (Some choice) = listed_answer variables firsts (alternatives true choice)

-- of each alternative that is listed at most 4,096 rows are kept
abbrev pub AreAllFew : Alternatives → Type 0
AreAllFew (Listed firsts) = AreFew firsts
AreAllFew other = Unit {0}
