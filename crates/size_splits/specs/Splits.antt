-- Which variables that a body opens are split, and the combinations of their numbers that count at a place (Sail language manual, "Type
-- variables").
use Rattle.std.specs.Prelude.{ℕ, zero, suc, ◌-◌, ◌*◌, ℤ, pos, ◌+ℤ◌, int_lt, nat_eq, nat_lt, Bool, true, false, ◌&&◌, ◌||◌}
use Rattle.std.specs.Prelude.{List, [], ◌∷◌, ◌++◌, length, map, Option, Some, None, if◌then◌else◌}
use Rattle.std.specs.List.{list_any}
use Rattle.std.specs.Ordering.{int_eq}
use Rattle.sail_types.specs.Places.{atom_is, first, is_variable}
use Rattle.sail_types.specs.Readings.{behind}
use Rattle.sail_types.specs.Sums.{atom_of, terms_of}
use Rattle.sail_types.specs.declared.numbers.Atom.{out-Atom}
use Rattle.sail_types.specs.declared.numbers.Comparison.{Comparison}
use Rattle.sail_types.specs.declared.numbers.Comparison.TheVariants as Is
use Rattle.sail_types.specs.declared.numbers.Con.{Con, Con-F, fold-Con, out-Con}
use Rattle.sail_types.specs.declared.numbers.Con.TheOpen as E
use Rattle.sail_types.specs.declared.numbers.Num.{Num}
use Rattle.sail_types.specs.declared.numbers.Term.{Term}
use Rattle.sail_types.specs.declared.table.Types.{Types}
use Rattle.value_indices.specs.declared.notes.Fact.{Fact}
use Rattle.value_indices.specs.Steps.{Note, size_note, call_note, conditions}
use Rattle.size_values.specs.declared.constants.Constant.{Constant}
use Rattle.size_values.specs.declared.constants.Picked.{Picked}
use Rattle.size_values.specs.Numbers.{Known, known_at, may_hold, value_of, with_picked}
use Rattle.size_values.specs.Sizes.{joined}
use Rattle.size_splits.specs.Bodies.{Body}
use Rattle.size_splits.specs.Sizing.{Sizing, first_named, is_open_note, made_facts, note_names}

-- ---- the numbers that an opened variable takes: it has a constant range, or stands in a set, by the first facts that name it

-- whether a number names this variable, outside of exponents
abbrev pub term_is : ℕ → Term → Bool
term_is v t = atom_is v (out-Atom (atom_of t))

abbrev pub is_among : ℕ → Num → Bool
is_among v t = list_any (term_is v) (terms_of t)

abbrev pub form_names : ℕ → Con-F Bool → Bool
form_names v (E.Truth b) = false
form_names v (E.Holds p) = nat_eq p v
form_names v (E.Compare how t u) = is_among v t || is_among v u
form_names v (E.OneOf t zs) = is_among v t
form_names v (E.Not b) = b
form_names v (E.All bs) = list_any (λ b. b) bs
form_names v (E.Any bs) = list_any (λ b. b) bs

abbrev pub names_it : ℕ → Con → Bool
names_it v = fold-Con Bool (form_names v)

-- a number, where it is constant and no number past the largest integer is on the way
abbrev pub constant_number : (ℕ → Constant) → Num → Option ℤ
constant_number of t = value_of of t

-- from the lower end up to the upper one, if they are at most so many; of an empty range that end alone
unfoldable pub up_to : ℕ → ℤ → ℤ → Option (List ℤ)
up_to zero x y = None
up_to (suc n) x y = if int_lt x y then behind (x ∷ []) (up_to n (x +ℤ pos 1) y) else Some (x ∷ [])

unfoldable pub few_from : ℤ → ℤ → Option (List ℤ)
few_from x y = up_to 64 x y

abbrev pub range_between : Option ℤ → Option ℤ → Option (List ℤ)
range_between (Some x) (Some y) = few_from x y
range_between o p = None

abbrev pub is_at_most : Comparison → Bool
is_at_most Is.LessEqual = true
is_at_most how = false

-- `low <= 'n` and `'n <= high`, where 'n is this variable alone
abbrev pub lower_end : (ℕ → Constant) → ℕ → Con-F Con → Option ℤ
lower_end of v (E.Compare how low t) = if is_at_most how && is_variable v t then constant_number of low else None
lower_end of v c = None

abbrev pub upper_end : (ℕ → Constant) → ℕ → Con-F Con → Option ℤ
upper_end of v (E.Compare how t high) = if is_at_most how && is_variable v t then constant_number of high else None
upper_end of v c = None

abbrev pub range_of : (ℕ → Constant) → ℕ → Con → List Con → Option (List ℤ)
range_of of v c [] = None
range_of of v c (d ∷ ds) = range_between (lower_end of v (out-Con c)) (upper_end of v (out-Con d))

-- each once, in order
abbrev pub one_more : List ℤ → ℤ → List ℤ
one_more seen z = if list_any (int_eq z) seen then seen else seen ++ z ∷ []

abbrev pub once_more : List ℤ → List ℤ → List ℤ
once_more seen [] = seen
once_more seen (z ∷ zs) = once_more (one_more seen z) zs

abbrev pub at_most_64 : List ℤ → Option (List ℤ)
at_most_64 zs = if nat_lt (length zs) 65 then Some zs else None

abbrev pub set_in : ℕ → Con-F Con → Option (List ℤ)
set_in v (E.OneOf t zs) = if is_variable v t then at_most_64 (once_more [] zs) else None
set_in v c = None

abbrev pub first_set : ℕ → List Con → Option (List ℤ)
first_set v [] = None
first_set v (c ∷ cs) = first (set_in v (out-Con c)) (first_set v cs)

-- a set by itself, or as one of several conditions
abbrev pub set_of : ℕ → Con-F Con → Option (List ℤ)
set_of v (E.All cs) = first_set v cs
set_of v c = set_in v c

-- by a condition that names it, and those behind
abbrev pub domain_at : (ℕ → Constant) → ℕ → Con → List Con → Option (List ℤ)
domain_at of v c cs = first (set_of v (out-Con c)) (range_of of v c cs)

abbrev pub domain : (ℕ → Constant) → ℕ → List Con → Option (List ℤ)
domain of v [] = None
domain of v (c ∷ cs) = if names_it v c then domain_at of v c cs else domain of v cs

-- ---- which are split: those that occur in a size, in order of opening, as long as there are at most 64 combinations

-- what is in force at a note, and what the note itself opens
abbrev pub note_facts : ℕ → Note → Option ℕ → List Fact
note_facts beyond (size_note facts place made) named = facts ++ made_facts beyond made named
note_facts beyond (call_note facts place k operands callee js qs) named = facts
note_facts beyond note named = []

-- what isn't constant by itself
abbrev pub note_domain : Types → Sizing → ℕ → (ℕ → Constant) → ℕ → Note → Option ℕ → Option (List ℤ)
note_domain types sizing beyond of v n named =
    if is_open_note types sizing beyond of n named && note_names types sizing beyond v n named
    then domain of v (conditions (note_facts beyond n named)) else None

abbrev pub notes_domain : Types → Sizing → ℕ → (ℕ → Constant) → ℕ → List Note → Option (List ℤ)
notes_domain types sizing beyond of v [] = None
notes_domain types sizing beyond of v (n ∷ ns) =
    first (note_domain types sizing beyond of v n (first_named ns)) (notes_domain types sizing beyond of v ns)

-- how many combinations there are with a variable more, if they are at most 64
abbrev pub count_with : ℕ → Option (List ℤ) → Option ℕ
count_with n None = None
count_with n (Some zs) = if nat_lt (n * length zs) 65 then Some (n * length zs) else None

abbrev pub taken : ℕ → ℕ → Option ℕ → (ℕ → List ℕ) → List ℕ
taken v n None more = more n
taken v n (Some m) more = v ∷ more m

-- where there are so many combinations by then
abbrev pub splits_from : Types → Sizing → (ℕ → Constant) → Body → ℕ → ℕ → ℕ → List ℕ
splits_from types sizing of b zero v n = []
splits_from types sizing of b (suc count) v n =
    taken v n (count_with n (notes_domain types sizing b.variables of v b.notes)) (splits_from types sizing of b count (suc v))

-- behind so many type variables
abbrev pub splits : Types → Sizing → Known → ℕ → Body → List ℕ
splits types sizing k own b = splits_from types sizing (known_at k) b (b.variables - own) own 1

-- ---- the combinations that count at a place

-- a number that is taken for a variable
abbrev pub picked : ℕ → ℤ → Picked
picked v z = record { variable = v; number = z }

abbrev pub with_number : ℕ → List (List Picked) → ℤ → List (List Picked)
with_number v ps z = map (λ p. picked v z ∷ p) ps

abbrev pub with_numbers : ℕ → List ℤ → List (List Picked) → List (List Picked)
with_numbers v zs ps = joined (map (with_number v ps) zs)

abbrev pub with_domain : ℕ → Option (List ℤ) → List (List Picked) → List (List Picked)
with_domain v None ps = ps
with_domain v (Some zs) ps = with_numbers v zs ps

-- of the variables that are opened there
abbrev pub combinations : (ℕ → Constant) → List Con → List ℕ → List (List Picked)
combinations of cs [] = [] ∷ []
combinations of cs (v ∷ vs) = with_domain v (domain of v cs) (combinations of cs vs)

abbrev pub one_where : Bool → List Picked → List (List Picked)
one_where true p = p ∷ []
one_where false p = []

abbrev pub those_that_may : Known → List Con → List (List Picked) → List (List Picked)
those_that_may k cs [] = []
those_that_may k cs (p ∷ ps) = one_where (may_hold (known_at (with_picked k p)) cs) p ++ those_that_may k cs ps

-- those under which no fact in force is constant and false; what the note itself opens is not yet in force
abbrev pub counted : Known → List ℕ → List Fact → List Fact → List (List Picked)
counted k vs facts own = those_that_may k (conditions facts) (combinations (known_at k) (conditions (facts ++ own)) vs)
